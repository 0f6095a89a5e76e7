-- What the words of a command line are read as.
use Rattle.std.specs.Prelude.{◌≡◌, ◌⊎◌, Bool, true, false, Result, Ok, Err}
use Rattle.plain_words.specs.declared.refusal.WordsRefusal.{WordsRefusal}
use Rattle.plain_words.specs.declared.refusal.WordsRefusal.TheVariants.{NotUnderstood, NoMemory}
use Rattle.plain_words.specs.Items.{WordList}

abbrev pub is_memory : WordsRefusal → Bool
is_memory NoMemory = true
is_memory NotUnderstood = false

-- The answer of a reading, where a relation says of which commands words are the plain form: a command exactly where
-- the words are its plain form, and `NotUnderstood` exactly where they are of no plain form. Want of memory is free.
pub record Reads {C : Type 0} (IsPlainForm : WordList → C → Type 0) (words : WordList)
    (result : Result C WordsRefusal) : Type 0 where
  pub understood : (command : C) → result ≡ Ok command → IsPlainForm words command
  pub refused : result ≡ Err NotUnderstood → (command : C) → ¬ (IsPlainForm words command)
  pub given : (command : C) → IsPlainForm words command → (result ≡ Ok command) ⊎ (result ≡ Err NoMemory)
