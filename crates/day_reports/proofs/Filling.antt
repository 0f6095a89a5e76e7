-- Rows that are added to a report one after another, and rows whose fields are told one by one.
use Rattle.std.proofs.Common.{◌≡◌, List, [], ◌∷◌, ◌++◌, append_assoc}

pub four_rows : {X : Type 0} (rows : List X) (a b c d : X) → (((rows ++ a ∷ []) ++ b ∷ []) ++ c ∷ []) ++ d ∷ [] ≡ rows ++ a ∷ b ∷ c ∷ d ∷ []
four_rows rows a b c d = simp append_assoc

pub nine_fields : {X : Type 0} {a b c d e f g h i a' b' c' d' e' f' g' h' i' : X} → a ≡ a' → b ≡ b' → c ≡ c' → d ≡ d' → e ≡ e' → f ≡ f' → g ≡ g' → h ≡ h' → i ≡ i'
    → a ∷ b ∷ c ∷ d ∷ e ∷ f ∷ g ∷ h ∷ i ∷ [] ≡ a' ∷ b' ∷ c' ∷ d' ∷ e' ∷ f' ∷ g' ∷ h' ∷ i' ∷ []
nine_fields a b c d e f g h i = cc
