use Rattle.std.proofs.Common.{◌≡◌, ◌∙◌, ap, List, map}
use Rattle.clap.specs.Simple.{App, app_of, is_simple, matches_of}
use Rattle.clap.specs.Takes.{takes}
use Rattle.clap.specs.Walk.{Text}
use Rattle.command_line.specs.Apps.{app}
use Rattle.command_line.proofs.Taking.{IsTaken, is_taken, simple}
use Rattle.command_line.proofs.taken.matches.Goals as goal

pub unreachable-requires : goal.unreachable-requires
unreachable-requires c =
    let texts : List Text = map (λ word. word.now) c.args.words.now in
    let is : IsTaken c.args.form texts = is_taken c.args.form texts c.requires in
    let command : app_of c.in_ok-command.command ≡ app c.args.form = c.in_ok-command.ensures in
    c.in_default.not-OutOfMemory
    (c.kind.ensures ∙ c.in-Err.ensures.passes (ap (λ (a : App). takes a texts) command ∙ is.takes))

pub returns-in-Ok : goal.returns-in-Ok
returns-in-Ok c =
    let texts : List Text = map (λ word. word.now) c.args.words.now in
    let command : app_of c.in_ok-command.command ≡ app c.args.form = c.in_ok-command.ensures in
    (c.in-Ok.ensures.matches (ap is_simple command ∙ simple c.args.form)).0
    ∙ ap (λ (a : App). matches_of a texts) command
