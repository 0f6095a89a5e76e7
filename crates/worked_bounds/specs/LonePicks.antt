-- A relaxation in small: two trips, for which composition 0 alone follows.
use Rattle.std.specs.Prelude.{◌≡◌, ℕ, ◌<◌, List, [], ◌∷◌, length, Bool, false, IsTrue, nat_lt, if◌then◌else◌, pos}
use Rattle.branch_tree.specs.Meanings.{Meanings}
use Rattle.branch_tree.specs.Regions.{are_in}

-- composition 0 for both trips
abbrev pub lone : List ℕ
lone = 0 ∷ 0 ∷ []

-- whether there are too few compositions for a solution
abbrev pub is_short : List (List ℕ) → Bool
is_short catalogue = nat_lt (length catalogue) 2

-- What the problem means: the picks of composition 0 cost 7, and there is one multiplier index, which may not be
-- negative. Its slack is 1 where the compositions are too few, and 0 else, when the picks are a solution.
abbrev pub lone_picks : List (List ℕ) → Meanings
lone_picks catalogue = record {
  trips = 2;
  indices = 1;
  free_from = 1;
  catalogue = catalogue;
  order = 0 ∷ 1 ∷ [];
  cost = λ picks. pos 7;
  slack = λ picks index. if is_short catalogue then pos 1 else pos 0;
  Follow = λ picks. (picks ≡ lone) × (0 < length catalogue);
  IsSolution = λ picks. (picks ≡ lone) × (is_short catalogue ≡ false);
  AreNear = λ picks region. (picks ≡ lone) × IsTrue (are_in picks region);
  broken = λ picks. record { index = 0; value = pos 1 };
}
