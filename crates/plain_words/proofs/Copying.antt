-- The words from a place on, copied one by one.
use Rattle.std.proofs.Common.{◌≡◌, ◌+◌, ◌∙◌, ℕ, List, [], ◌∷◌, ◌++◌, Some, Bor, map, drop, sym, ap, append_assoc}
use Rattle.std.specs.Prelude.{slice_get}
use Rattle.std.proofs.lemmas.List.{at_drop_more, map-append}
use Rattle.std.proofs.lemmas.Option.{get_or_from_slice_get, slice_get_within}
use Rattle.plain_words.specs.Items.{WordList}

drop_next : (words : WordList) (i : ℕ) (word : List ℕ) → slice_get words i ≡ Some word
    → drop i words ≡ word ∷ drop (i + 1) words
drop_next words i word here =
    at_drop_more (λ (rest : WordList). rest) words i word (slice_get_within words i word here)
    ∙ ap (λ (w : List ℕ). w ∷ drop (i + 1) words) (get_or_from_slice_get words i word word here)

-- one more word is copied
pub copied_more : (words : WordList) (i : ℕ) (word : Bor (List ℕ)) (copied more : List (Bor (List ℕ)))
    → slice_get words i ≡ Some word.now → more ≡ copied ++ word ∷ []
    → map (λ word. word.now) more ++ drop (i + 1) words ≡ map (λ word. word.now) copied ++ drop i words
copied_more words i word copied more here one =
    ap (λ (ws : List (Bor (List ℕ))). map (λ word. word.now) ws ++ drop (i + 1) words) one
    ∙ ap (λ (ws : WordList). ws ++ drop (i + 1) words)
    (map-append (λ (w : Bor (List ℕ)). w.now) copied (word ∷ []))
    ∙ append_assoc (map (λ word. word.now) copied) (word.now ∷ []) (drop (i + 1) words)
    ∙ ap (λ (ws : WordList). map (λ word. word.now) copied ++ ws) (sym (drop_next words i word.now here))
