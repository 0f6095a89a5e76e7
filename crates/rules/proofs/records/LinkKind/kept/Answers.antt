-- What a turn keeps is as long as the longest list that fits.
use Rattle.std.proofs.Common.{◌≡◌, subst, rules}
use Rattle.rules.specs.Turns.{kept_of, IsKept}
use Rattle.rules.proofs.Turning.{kept_of-is}
use Rattle.rules.proofs.records.LinkKind.kept.Goals as goal

pub returns-in-Turn-clause-meaning : goal.returns-in-Turn-clause-meaning
returns-in-Turn-clause-meaning c =
    let number : kept_of c.args.self.now c.args.arriving.now c.args.departing.now ≡ c.kept_length.result = search rules in
    subst (IsKept c.args.self.now c.args.arriving.now c.args.departing.now) number (kept_of-is c.args.self.now c.args.arriving.now c.args.departing.now)
