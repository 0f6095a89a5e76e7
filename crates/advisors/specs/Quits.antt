-- What the answer of an advisor leaves.
use Rattle.std.specs.Prelude.{Bool, true, false, Result, Ok, Err}
use Rattle.rail_base.specs.declared.memory.NoMemory.{NoMemory}
use Rattle.advisors.specs.declared.advisor.Word.{Word}
use Rattle.advisors.specs.declared.advisor.Word.TheVariants.{More, Enough, Quit}

-- whether an advisor that had not quit has quit after its answer
abbrev pub quit_after : Result Word NoMemory → Bool
quit_after (Ok Quit) = true
quit_after (Ok More) = false
quit_after (Ok Enough) = false
quit_after (Err e) = false
