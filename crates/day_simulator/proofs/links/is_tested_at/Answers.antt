-- For a join two trips arrive, and for any other link one.
use Rattle.std.proofs.Common.{◌≡◌, ◌∙◌, ℕ, List, [], ◌∷◌, Bool, Option, Some, None, refl, sym, ap}
use Rattle.std.specs.Prelude.{not, option_to_list}
use Rattle.rules.specs.declared.records.LinkKind.{LinkKind}
use Rattle.rules.specs.declared.records.LinkKind.TheVariants.{Turn, Join, Split}
use Rattle.timetable.specs.Links.{arriving_in}
use Rattle.day_simulator.specs.Steps.{is_tested_at}
use Rattle.day_simulator.proofs.links.is_tested_at.Goals as goal

of_two : (departure : Bool) (kind : LinkKind) (first second : ℕ) → first ∷ second ∷ [] ≡ arriving_in kind → departure ≡ is_tested_at departure kind
of_two departure (Turn a b uncouple couple exchange) first second e = absurd (cc)
of_two departure (Join a1 a2 b) first second e = refl
of_two departure (Split a b1 b2) first second e = absurd (cc)

of_one : (departure : Bool) (kind : LinkKind) (first : ℕ) → first ∷ [] ≡ arriving_in kind → not departure ≡ is_tested_at departure kind
of_one departure (Turn a b uncouple couple exchange) first e = refl
of_one departure (Join a1 a2 b) first e = absurd (cc)
of_one departure (Split a b1 b2) first e = refl

pub returns-in-Some : goal.returns-in-Some
returns-in-Some c =
    of_two c.args.departure c.args.link.now.kind c.arriving.result.first c.in-Some.field-0
    (ap (λ (o : Option ℕ). c.arriving.result.first ∷ option_to_list o) (sym c.in-Some.is) ∙ c.arriving.ensures.trips)

pub returns-in-None : goal.returns-in-None
returns-in-None c =
    of_one c.args.departure c.args.link.now.kind c.arriving.result.first
    (ap (λ (o : Option ℕ). c.arriving.result.first ∷ option_to_list o) (sym c.in-None.is) ∙ c.arriving.ensures.trips)
