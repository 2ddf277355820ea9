-- Texts one behind the other.
use Rattle.std.specs.Prelude.{ℕ, List, [], ◌∷◌, ◌++◌, codes}
use Rattle.std.specs.List.{flat_map}

abbrev pub behind_comma : {A : Type 0} → (A → List ℕ) → A → List ℕ
behind_comma text x = codes ", " ++ text x

-- the texts of all, with a comma between two
abbrev pub listed : {A : Type 0} → (A → List ℕ) → List A → List ℕ
listed text [] = []
listed text (x ∷ xs) = text x ++ flat_map (behind_comma text) xs
