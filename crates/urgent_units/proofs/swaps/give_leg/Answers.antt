use Rattle.std.proofs.Common.{◌≡◌, ◌<◌, ◌≤◌, List, length, get_or, slice_set, false, refl, ap, sym, subst, ◌∙◌, arith}
use Rattle.std.specs.List.{count_by}
use Rattle.urgent_units.specs.declared.swaps.Rider.{Rider}
use Rattle.urgent_units.specs.UnderWay.{agrees, may_take}
use Rattle.urgent_units.proofs.Added.{entry}
use Rattle.urgent_units.proofs.UnderWays.{given_advances, given_agrees, given_way, here, some_may_take}
use Rattle.urgent_units.proofs.swaps.give_leg.Goals as goal

pub rider_for-other-requires : goal.rider_for-other-requires
rider_for-other-requires c =
    subst (λ (rs : List Rider). 1 ≤ count_by (may_take c.args.marked.now) rs) (sym c.as_slice.ensures.value)
    (some_may_take c.args.instance.now c.is_sound.ensures.limits c.is_sound.ensures.links c.is_sound.ensures.meet c.args.yards.now c.requires.under_way c.args.number c.args.marked.now
    c.requires.first c.requires.next (record { unit = 0; is_brought = false; station = 0; ready = 0 }))

pub returns-clause-under_way : goal.returns-clause-under_way
returns-clause-under_way c =
    let yards = c.args.yards.now in
    let i = c.args.number in
    let j = c.rider_for-other.result in
    let a = c.index.result.now in
    let b = c.index-2.result.now in
    let long = c.requires.under_way.long in
    let at_j : j < length yards.riders.items = (let within = c.rider_for-other.ensures.within in let same = ap (λ (rs : List Rider). length rs) c.as_slice.ensures.value in omega (arith, within, same)) in
    let a_is : (d : Rider) → get_or yards.riders.items i d ≡ a = λ d. here yards i a d long c.requires.first.within c.index.ensures in
    let b_is : (d : Rider) → get_or yards.riders.items j d ≡ b = λ d. entry yards.riders.items j b d at_j c.index-2.ensures in
    given_way c.args.instance.now c.is_sound.ensures.limits c.is_sound.ensures.links c.is_sound.ensures.meet c.args.yards.now c.requires.under_way c.args.number c.args.marked.now
    c.requires.first c.requires.next c.is_sound.ensures.stock j a b at_j a_is b_is
    (ap (may_take c.args.marked.now) (sym (b_is b) ∙ ap (λ (rs : List Rider). get_or rs j b) (sym c.as_slice.ensures.value)) ∙ c.rider_for-other.ensures.takes b)
    (ap (λ (r : Rider). agrees c.args.marked.now.is_brought r.is_brought) (sym (a_is a)) ∙ c.requires.other a)
    _ c.in_ok-yards.ensures
    (ap (λ (r : Rider). slice_set (slice_set yards.riders.items i r) j c.index-rider.result.now) (c.index-3.ensures ∙ b_is c.index-3.result.now)
    ∙ ap (λ (r : Rider). slice_set (slice_set yards.riders.items i b) j r) (c.index-rider.ensures ∙ a_is c.index-rider.result.now))
    refl

pub returns-clause-advances : goal.returns-clause-advances
returns-clause-advances c =
    let yards = c.args.yards.now in
    let i = c.args.number in
    let j = c.rider_for-other.result in
    let a = c.index.result.now in
    let b = c.index-2.result.now in
    let long = c.requires.under_way.long in
    let at_j : j < length yards.riders.items = (let within = c.rider_for-other.ensures.within in let same = ap (λ (rs : List Rider). length rs) c.as_slice.ensures.value in omega (arith, within, same)) in
    let a_is : (d : Rider) → get_or yards.riders.items i d ≡ a = λ d. here yards i a d long c.requires.first.within c.index.ensures in
    let b_is : (d : Rider) → get_or yards.riders.items j d ≡ b = λ d. entry yards.riders.items j b d at_j c.index-2.ensures in
    given_advances c.args.instance.now c.is_sound.ensures.limits c.is_sound.ensures.links c.is_sound.ensures.meet c.args.yards.now c.requires.under_way c.args.number c.args.marked.now
    c.requires.first c.requires.next c.is_sound.ensures.stock j a b at_j a_is b_is
    (ap (may_take c.args.marked.now) (sym (b_is b) ∙ ap (λ (rs : List Rider). get_or rs j b) (sym c.as_slice.ensures.value)) ∙ c.rider_for-other.ensures.takes b)
    (ap (λ (r : Rider). agrees c.args.marked.now.is_brought r.is_brought) (sym (a_is a)) ∙ c.requires.other a)
    _ c.in_ok-yards.ensures
    (ap (λ (r : Rider). slice_set (slice_set yards.riders.items i r) j c.index-rider.result.now) (c.index-3.ensures ∙ b_is c.index-3.result.now)
    ∙ ap (λ (r : Rider). slice_set (slice_set yards.riders.items i b) j r) (c.index-rider.ensures ∙ a_is c.index-rider.result.now))
    refl

pub returns-clause-agrees : goal.returns-clause-agrees
returns-clause-agrees c d =
    let yards = c.args.yards.now in
    let i = c.args.number in
    let j = c.rider_for-other.result in
    let a = c.index.result.now in
    let b = c.index-2.result.now in
    let long = c.requires.under_way.long in
    let at_j : j < length yards.riders.items = (let within = c.rider_for-other.ensures.within in let same = ap (λ (rs : List Rider). length rs) c.as_slice.ensures.value in omega (arith, within, same)) in
    let a_is : (d : Rider) → get_or yards.riders.items i d ≡ a = λ d. here yards i a d long c.requires.first.within c.index.ensures in
    let b_is : (d : Rider) → get_or yards.riders.items j d ≡ b = λ d. entry yards.riders.items j b d at_j c.index-2.ensures in
    ap (λ (rs : List Rider). agrees c.args.marked.now.is_brought (get_or rs i d).is_brought)
    (ap (λ (r : Rider). slice_set (slice_set yards.riders.items i r) j c.index-rider.result.now) (c.index-3.ensures ∙ b_is c.index-3.result.now)
    ∙ ap (λ (r : Rider). slice_set (slice_set yards.riders.items i b) j r) (c.index-rider.ensures ∙ a_is c.index-rider.result.now))
    ∙ given_agrees c.args.instance.now c.is_sound.ensures.limits c.is_sound.ensures.links c.is_sound.ensures.meet c.args.yards.now c.requires.under_way c.args.number c.args.marked.now
    c.requires.first c.requires.next c.is_sound.ensures.stock j a b at_j a_is b_is
    (ap (may_take c.args.marked.now) (sym (b_is b) ∙ ap (λ (rs : List Rider). get_or rs j b) (sym c.as_slice.ensures.value)) ∙ c.rider_for-other.ensures.takes b)
    (ap (λ (r : Rider). agrees c.args.marked.now.is_brought r.is_brought) (sym (a_is a)) ∙ c.requires.other a) d
