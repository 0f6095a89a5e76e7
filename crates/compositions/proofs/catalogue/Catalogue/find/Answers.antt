use Rattle.std.proofs.Common.{◌≡◌, ◌<◌, ◌≤◌, ℕ, List, AllPairs, Contains, Some, true, get_or, slice_get, length, refl}
use Rattle.std.proofs.Common.{ap, ◌∙◌, sym, subst, arith}
use Rattle.std.proofs.lemmas.Bool.{iff_false}
use Rattle.std.proofs.lemmas.Option.{slice_get_read}
use Rattle.compositions.specs.Catalogue.{comes_before}
use Rattle.compositions.proofs.Lookup.{nowhere, only_there}
use Rattle.compositions.proofs.catalogue.Catalogue.find.Goals as goal

pub returns-then-place-len-clause-none : goal.returns-then-place-len-clause-none
returns-then-place-len-clause-none c =
    let seen : List (List ℕ) = c.deref.result.now in
    let in_order : AllPairs (λ x y. comes_before x y ≡ true) seen =
    subst (λ (l : List (List ℕ)). AllPairs (λ x y. comes_before x y ≡ true) l) (sym c.deref.ensures.value) c.self.invariant.1 in
    let end : length seen ≤ c.first_not_before-place.result = omega (arith, ap length c.deref.ensures.value) in (
      λ _ there. nowhere seen in_order c.args.composition.now c.first_not_before-place.result end c.first_not_before-place.ensures.before
          (subst (λ (l : List (List ℕ)). Contains l c.args.composition.now) (sym (c.deref.ensures.value ∙ c.self.view_is)) there),
      λ _. refl,
    )

pub returns-then-not-is-clause-none : goal.returns-then-not-is-clause-none
returns-then-not-is-clause-none c =
    let seen : List (List ℕ) = c.deref.result.now in
    let in_order : AllPairs (λ x y. comes_before x y ≡ true) seen =
    subst (λ (l : List (List ℕ)). AllPairs (λ x y. comes_before x y ≡ true) l) (sym c.deref.ensures.value) c.self.invariant.1 in
    let here : c.index.result.now ≡ get_or seen c.first_not_before-place.result c.index.result.now =
    subst (λ (l : List (List ℕ)). c.index.result.now ≡ get_or l c.first_not_before-place.result c.index.result.now) (sym c.deref.ensures.value) c.index.ensures in
    let below : c.first_not_before-place.result < length seen = omega (arith, ap length c.deref.ensures.value, c.self.inside.compositions.ok.0) in (
      λ _ there. iff_false c.is.ensures c.if-not-is.true
          (only_there seen in_order c.args.composition.now c.first_not_before-place.result c.index.result.now below here
          c.first_not_before-place.ensures.before c.first_not_before-place.ensures.after
          (subst (λ (l : List (List ℕ)). Contains l c.args.composition.now) (sym (c.deref.ensures.value ∙ c.self.view_is)) there)),
      λ _. refl,
    )

pub returns-clause-some : goal.returns-clause-some
returns-clause-some c =
    let below : c.first_not_before-place.result < length c.self.inside.compositions.items = omega (arith, ap length c.deref.ensures.value, c.self.inside.compositions.ok.0) in
    let read : slice_get c.self.inside.compositions.items c.first_not_before-place.result ≡ Some c.index.result.now =
    slice_get_read c.self.inside.compositions.items (length c.self.inside.compositions.items) c.first_not_before-place.result c.index.result.now refl below c.index.ensures in
    subst (λ (l : List (List ℕ)). slice_get l c.first_not_before-place.result ≡ Some c.args.composition.now) c.self.view_is
    (read ∙ ap (λ (x : List ℕ). Some x) (c.is.ensures.0 c.if-not-is.false))
