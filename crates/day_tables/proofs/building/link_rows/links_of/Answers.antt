-- The links that were added are kept.
use Rattle.std.proofs.Common.{◌≡◌, ◌∙◌, List, Result, Ok, Err, ap, sym, subst}
use Rattle.std.specs.Global.{Vec}
use Rattle.std.specs.Result.{result_and}
use Rattle.rail_base.specs.Answers.{Gives, GivesRows}
use Rattle.day_tables.specs.Build.{is_memory}
use Rattle.day_tables.specs.LinkRows.{accept_link, links_in}
use Rattle.day_tables.specs.Rowwise.{accept_each}
use Rattle.day_tables.specs.declared.building.refusal.InstanceRefusal.{InstanceRefusal}
use Rattle.rules.specs.declared.records.Link.{Link}
use Rattle.day_tables.proofs.building.link_rows.links_of.Goals as goal

kept_links : {A : Type 0} (added : Result A InstanceRefusal) (kept : Vec Link) (links : List Link) (said : Result (List Link) InstanceRefusal) → kept.items ≡ links
    → Gives is_memory (result_and added (Ok links)) said → GivesRows is_memory (result_and added (Ok kept)) said
kept_links (Ok done) kept links said same gives = gives ∙ ap Ok (sym same)
kept_links (Err refusal) kept links said same gives = gives

pub returns : goal.returns
unfolding links_in
returns c =
    let gives : Gives is_memory (result_and c.add_links-added.result (Ok c.add_links-added.new.links.links)) (links_in c.args.trips.now c.args.rows.now) =
    subst (λ (before : List Link). Gives is_memory (result_and c.add_links-added.result (Ok c.add_links-added.new.links.links)) (accept_each (accept_link c.args.trips.now) before c.args.rows.now)) c.in_ok-links.ensures.links c.add_links-added.ensures in
    rw c.and.ensures (kept_links c.add_links-added.result c.into_links.result _ _ c.into_links.ensures gives)
