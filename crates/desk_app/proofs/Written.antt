-- Lines of a plan with units swapped, one after the other.
use Rattle.std.proofs.Common.{◌≡◌, ℕ, zero, suc, ◌+◌, ◌<◌, Bool, List, [], ◌∷◌, ◌++◌, length, get_or, take, refl, sym, ap, ◌∙◌, append_assoc, arith}
use Rattle.std.proofs.lemmas.List.{append-nil, take_more, length-take-le}
use Rattle.std.specs.Prelude.{slice_get, unwrap_or}
use Rattle.timetable.specs.Links.{list_of}
use Rattle.urgent_units.specs.Cuts.{moments_in}
use Rattle.answer_text.specs.Lines.{text_of_lines}
use Rattle.answer_text.proofs.Written.{text_of_lines-append}
use Rattle.desk_app.specs.SwapTexts.{near_from, near_if, near_lines}

-- what is found at a place is what stands there, whatever would be found elsewhere
slice_get_unwrapped : {A : Type 0} (xs : List A) (i : ℕ) (d e : A) → i < length xs → unwrap_or (slice_get xs i) d ≡ get_or xs i e
slice_get_unwrapped [] i d e within = absurd (omega (arith, within))
slice_get_unwrapped (x ∷ xs) zero d e within = refl
slice_get_unwrapped (x ∷ xs) (suc i) d e within = slice_get_unwrapped xs i d e (omega (arith, within))

-- lines after what was written before
more_lines : (start text new : List ℕ) (lines more : List (List ℕ)) → text ≡ start ++ text_of_lines lines → new ≡ text ++ text_of_lines more
    → new ≡ start ++ text_of_lines (lines ++ more)
more_lines start text new lines more before now =
    now ∙ ap (λ (front : List ℕ). front ++ text_of_lines more) before ∙ append_assoc start (text_of_lines lines) (text_of_lines more)
    ∙ ap (λ (back : List ℕ). start ++ back) (sym (text_of_lines-append lines more))

-- ---- what stands at a place

pub list_at : (plan : List (List ℕ)) (trip : ℕ) → trip < length plan → list_of plan trip ≡ get_or plan trip (list_of plan trip)
unfolding list_of
list_at plan trip within = slice_get_unwrapped plan trip [] (list_of plan trip) within

pub flags_of : (cut : List (List Bool)) (s : ℕ) → s < length cut → moments_in cut s ≡ get_or cut s []
flags_of cut s within = slice_get_unwrapped cut s [] [] within

-- ---- the moments of a station

-- one more moment at the end
near_from-push : (s k : ℕ) (flags : List Bool) (flag : Bool) → near_from s k (flags ++ flag ∷ []) ≡ near_from s k flags ++ near_if flag s (length flags + k)
near_from-push s k [] flag =
    let place : k ≡ 0 + k = omega arith in
    append-nil (near_if flag s k) ∙ ap (λ (n : ℕ). near_if flag s n) place
near_from-push s k (first ∷ flags) flag =
    let place : length flags + suc k ≡ suc (length flags) + k = omega arith in
    ap (λ (lines : List (List ℕ)). near_if first s k ++ lines) (near_from-push s (suc k) flags flag
    ∙ ap (λ (n : ℕ). near_from s (suc k) flags ++ near_if flag s n) place)
    ∙ sym (append_assoc (near_if first s k) (near_from s (suc k) flags) (near_if flag s (suc (length flags) + k)))

pub moment_written : (start text new : List ℕ) (s : ℕ) (flags : List Bool) (k : ℕ) (flag d : Bool) → k < length flags → flag ≡ get_or flags k d
    → text ≡ start ++ text_of_lines (near_from s 0 (take k flags)) → new ≡ text ++ text_of_lines (near_if flag s k)
    → new ≡ start ++ text_of_lines (near_from s 0 (take (k + 1) flags))
moment_written start text new s flags k flag d within here before now =
    let count : length (take k flags) + 0 ≡ k = omega (arith, length-take-le k flags (omega (arith, within))) in
    let more : near_from s 0 (take (k + 1) flags) ≡ near_from s 0 (take k flags) ++ near_if flag s k =
    ap (near_from s 0) (take_more flags k d within) ∙ ap (λ (f : Bool). near_from s 0 (take k flags ++ f ∷ [])) (sym here)
    ∙ near_from-push s 0 (take k flags) flag ∙ ap (λ (n : ℕ). near_from s 0 (take k flags) ++ near_if flag s n) count in
    more_lines start text new (near_from s 0 (take k flags)) (near_if flag s k) before now ∙ ap (λ (lines : List (List ℕ)). start ++ text_of_lines lines) (sym more)

-- ---- the stations

near_lines-push : (s : ℕ) (cut : List (List Bool)) (flags : List Bool) → near_lines s (cut ++ flags ∷ []) ≡ near_lines s cut ++ near_from (length cut + s) 0 flags
near_lines-push s [] flags =
    let place : s ≡ 0 + s = omega arith in
    append-nil (near_from s 0 flags) ∙ ap (λ (n : ℕ). near_from n 0 flags) place
near_lines-push s (first ∷ cut) flags =
    let place : length cut + suc s ≡ suc (length cut) + s = omega arith in
    ap (λ (lines : List (List ℕ)). near_from s 0 first ++ lines) (near_lines-push (suc s) cut flags
    ∙ ap (λ (n : ℕ). near_lines (suc s) cut ++ near_from n 0 flags) place)
    ∙ sym (append_assoc (near_from s 0 first) (near_lines (suc s) cut) (near_from (suc (length cut) + s) 0 flags))

pub station_written : (start text new : List ℕ) (cut : List (List Bool)) (s : ℕ) (flags d : List Bool) → s < length cut → flags ≡ get_or cut s d
    → text ≡ start ++ text_of_lines (near_lines 0 (take s cut)) → new ≡ text ++ text_of_lines (near_from s 0 flags)
    → new ≡ start ++ text_of_lines (near_lines 0 (take (s + 1) cut))
station_written start text new cut s flags d within here before now =
    let count : length (take s cut) + 0 ≡ s = omega (arith, length-take-le s cut (omega (arith, within))) in
    let more : near_lines 0 (take (s + 1) cut) ≡ near_lines 0 (take s cut) ++ near_from s 0 flags =
    ap (near_lines 0) (take_more cut s d within) ∙ ap (λ (f : List Bool). near_lines 0 (take s cut ++ f ∷ [])) (sym here)
    ∙ near_lines-push 0 (take s cut) flags ∙ ap (λ (n : ℕ). near_lines 0 (take s cut) ++ near_from n 0 flags) count in
    more_lines start text new (near_lines 0 (take s cut)) (near_from s 0 flags) before now ∙ ap (λ (lines : List (List ℕ)). start ++ text_of_lines lines) (sym more)

-- ---- the whole text

pub in_order : (count last : List ℕ) (runs moments : List (List ℕ)) → (((count ∷ []) ++ runs) ++ moments) ++ last ∷ [] ≡ count ∷ (runs ++ (moments ++ (last ∷ [])))
in_order count last runs moments =
    ap (λ (lines : List (List ℕ)). count ∷ lines) (append_assoc runs moments (last ∷ []))
