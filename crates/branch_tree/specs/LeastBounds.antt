-- The inside of the least bound of a tree: the lower of two bounds.
use Rattle.std.specs.Prelude.{Option, Some, None, if◌then◌else◌, int_lt}
use Rattle.rail_base.specs.declared.numbers.Money.{Money}

-- the lower of two bounds
abbrev pub lower_of : Money → Money → Money
lower_of least bound = if int_lt bound.0 least.0 then bound else least

-- the lower of two bounds, each of which may be missing
abbrev pub least_of : Option Money → Option Money → Option Money
least_of least None = least
least_of None (Some bound) = Some bound
least_of (Some least) (Some bound) = Some (lower_of least bound)
