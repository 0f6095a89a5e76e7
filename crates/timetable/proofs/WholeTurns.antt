-- A turn has the parts of its rule, and no others.
use Rattle.std.proofs.Common.{◌≡◌, ℕ, ◌-◌, ◌≤◌, List, length, take, drop, map, Bool, true, Option, Some, None, refl}
use Rattle.std.proofs.Common.{sym, ap, subst, ◌∙◌, arith, length-append, length-take, length-drop}
use Rattle.std.proofs.lemmas.Bool.{eqb-true, leb-true}
use Rattle.std.proofs.lemmas.List.{take-append-drop, length-map}
use Rattle.std.proofs.Math.Seq.{take-append_seam, drop-append_seam}
use Rattle.rules.specs.declared.records.End.{End}
use Rattle.rules.specs.declared.records.End.TheVariants as at
use Rattle.timetable.specs.Laws.{HaveParts}
use Rattle.timetable.specs.Turns.{IsKeptList, Parts, AreParts, Consists, may_stay, staying, beyond, kept_length}
use Rattle.timetable.specs.Turns.{may_shunt, turn_parts}
use Rattle.rules.proofs.Turning.{is_staying, kept-is, kept-none, staying-map, parts_at-is, turn_parts-some}
use Rattle.rules.proofs.Turning.{turn_parts-is}

-- where so many may stay, the list is what stays and what goes, and the rest of them go
record Goes (end : End) (whole : List ℕ) (n : ℕ) : Type 0 where
  consists : Consists end whole (staying end whole n) (beyond end whole n)
  long : length (beyond end whole n) ≡ length whole - n

goes : (end : End) (whole : List ℕ) (n : ℕ) → may_stay end (length whole) n ≡ true → Goes end whole n
goes at.None whole n may = let all : n ≡ length whole = eqb-true n (length whole) may in record { consists = (refl, refl); long = omega arith }
goes at.Rear whole n may = record { consists = sym (take-append-drop n whole); long = length-drop n whole }
goes at.Front whole n may =
    let short : n ≤ length whole = leb-true n (length whole) may in
    record { consists = sym (take-append-drop (length whole - n) whole); long = omega (arith, length-take (length whole - n) whole) }

-- a list that consists of two parts is cut into them where the first has its length
record IsCut (end : End) (whole stays goes : List ℕ) : Type 0 where
  staying_is : staying end whole (length stays) ≡ stays
  beyond_is : beyond end whole (length stays) ≡ goes
  long : length whole - length stays ≡ length goes

cut : (end : End) (whole stays goes : List ℕ) → Consists end whole stays goes → IsCut end whole stays goes
cut at.None whole stays goes (all, none) = record { staying_is = all; beyond_is = sym none; long = omega (arith, ap length all, ap length none) }
cut at.Rear whole stays goes is = record {
  staying_is = ap (take (length stays)) is ∙ take-append_seam stays goes;
  beyond_is = ap (drop (length stays)) is ∙ drop-append_seam stays goes;
  long = omega (arith, ap length is, length-append stays goes);
}
cut at.Front whole stays goes is =
    let long : length whole - length stays ≡ length goes = omega (arith, ap length is, length-append goes stays) in
    record {
      staying_is = ap (λ (n : ℕ). drop n whole) long ∙ ap (drop (length goes)) is ∙ drop-append_seam goes stays;
      beyond_is = ap (λ (n : ℕ). take n whole) long ∙ ap (take (length goes)) is ∙ take-append_seam goes stays;
      long = long;
    }

module _ (f : ℕ → ℕ) (uncouple couple : End) (exchange : Bool) (arriving departing : List ℕ) where
  -- the parts that there are
  are_parts : (parts : Parts) → turn_parts f uncouple couple exchange arriving departing ≡ Some parts → AreParts f uncouple couple exchange arriving departing parts
  are_parts parts e =
      let of = turn_parts-some f uncouple couple exchange arriving departing parts e in
      let n : ℕ = of.number in
      let kept = kept-is uncouple couple (map f arriving) (map f departing) n of.kept in
      let off = is_staying uncouple (map f arriving) (staying uncouple (map f arriving) n) kept.0.fits.uncoupled in
      let on = is_staying couple (map f departing) (staying uncouple (map f arriving) n) kept.0.fits.coupled in
      let may_off : may_stay uncouple (length arriving) n ≡ true =
      subst (λ (k : ℕ). may_stay uncouple k n ≡ true) (length-map arriving f) (subst (λ (k : ℕ). may_stay uncouple (length (map f arriving)) k ≡ true) kept.1 off.may) in
      let may_on : may_stay couple (length departing) n ≡ true =
      subst (λ (k : ℕ). may_stay couple k n ≡ true) (length-map departing f) (subst (λ (k : ℕ). may_stay couple (length (map f departing)) k ≡ true) kept.1 on.may) in
      let given = goes uncouple arriving n may_off in
      let taken = goes couple departing n may_on in
      subst (AreParts f uncouple couple exchange arriving departing) (sym of.parts_at.are) (record {
        types = subst (IsKeptList uncouple couple (map f arriving) (map f departing)) (staying-map f uncouple arriving n) kept.0;
        arrive = given.consists;
        depart = subst (λ (us : List ℕ). Consists couple departing us (beyond couple departing n)) (sym of.parts_at.one) taken.consists;
        few = subst (λ (k : ℕ). may_shunt exchange k (length (beyond couple departing n)) ≡ true) (sym given.long)
            (subst (λ (k : ℕ). may_shunt exchange (length arriving - n) k ≡ true) (sym taken.long) of.parts_at.few);
      })

  -- the number of a list that is the kept one
  number_of : (types : List ℕ) → IsKeptList uncouple couple (map f arriving) (map f departing) types → kept_length uncouple couple (map f arriving) (map f departing) ≡ Some (length types)
  number_of types is = on (kept_length uncouple couple (map f arriving) (map f departing)) refl
    where
      on : (o : Option ℕ) → kept_length uncouple couple (map f arriving) (map f departing) ≡ o → o ≡ Some (length types)
      on None e = absurd (kept-none uncouple couple (map f arriving) (map f departing) e types is.fits)
      on (Some n) e =
          let kept = kept-is uncouple couple (map f arriving) (map f departing) n e in
          let longer : length types ≤ length (staying uncouple (map f arriving) n) = kept.0.longest types is.fits in
          let shorter : length (staying uncouple (map f arriving) n) ≤ length types = is.longest (staying uncouple (map f arriving) n) kept.0.fits in
          let one : n ≡ length types = omega (arith, kept.1) in
          ap Some one

  -- parts of the rule are those that there are
  has_parts : (parts : Parts) → AreParts f uncouple couple exchange arriving departing parts → turn_parts f uncouple couple exchange arriving departing ≡ Some parts
  has_parts parts are =
      let n : ℕ = length parts.kept in
      let number : kept_length uncouple couple (map f arriving) (map f departing) ≡ Some (length parts.kept) = number_of (map f parts.kept) are.types ∙ ap Some (length-map parts.kept f) in
      let off = cut uncouple arriving parts.kept parts.given are.arrive in
      let on = cut couple departing parts.kept parts.taken are.depart in
      let few : may_shunt exchange (length arriving - length parts.kept) (length departing - length parts.kept) ≡ true =
      subst (λ (k : ℕ). may_shunt exchange k (length departing - length parts.kept) ≡ true) (sym off.long)
      (subst (λ (k : ℕ). may_shunt exchange (length parts.given) k ≡ true) (sym on.long) are.few) in
      turn_parts-is f uncouple couple exchange arriving departing (length parts.kept) number
      ∙ parts_at-is uncouple couple exchange arriving departing (length parts.kept) (off.staying_is ∙ sym on.staying_is) few
      ∙ ap (λ (us : List ℕ). Some (record { kept = us; given = beyond uncouple arriving (length parts.kept); taken = beyond couple departing (length parts.kept) })) off.staying_is
      ∙ ap (λ (us : List ℕ). Some (record { kept = parts.kept; given = us; taken = beyond couple departing (length parts.kept) })) off.beyond_is
      ∙ ap (λ (us : List ℕ). Some (record { kept = parts.kept; given = parts.given; taken = us })) on.beyond_is

pub have_parts : HaveParts
have_parts f uncouple couple exchange arriving departing parts =
    (are_parts f uncouple couple exchange arriving departing parts, has_parts f uncouple couple exchange arriving departing parts)
