-- Lists of names, walked from their ends.
use Rattle.std.proofs.Common.{◌≡◌, ◌≢◌, ℕ, zero, suc, ◌+◌, ◌-◌, ◌<◌, List, [], ◌∷◌, length, drop, slice_get, Some, refl, sym, ap, ◌∙◌, subst, arith, option_map, get_or}
use Rattle.std.specs.List.{AllByRecursion}
use Rattle.std.proofs.lemmas.Option.{slice_get-map, slice_get_read}
use Rattle.pg_columns.specs.declared.column.PgColumn.{PgColumn}
use Rattle.pg_columns.specs.Columns.{names_of}

pub drop_at : {A : Type 0} (xs : List A) (i : ℕ) (x : A) → slice_get xs i ≡ Some x → drop i xs ≡ x ∷ drop (i + 1) xs
drop_at [] i x e = absurd cc
drop_at (y ∷ ys) zero x e = let same : y ≡ x = cc in ap (λ (z : _). z ∷ ys) same
drop_at (y ∷ ys) (suc i) x e = let next : suc (i + 1) ≡ suc i + 1 = omega arith in subst (λ (k : ℕ). drop (suc i) (y ∷ ys) ≡ x ∷ drop k (y ∷ ys)) next (drop_at ys i x e)

pub drop_whole : {A : Type 0} (xs : List A) → drop (length xs) xs ≡ []
drop_whole [] = refl
drop_whole (x ∷ xs) = drop_whole xs

-- the name of the column that is read
pub name_at : (columns : List PgColumn) (place : ℕ) (column : PgColumn) → slice_get columns place ≡ Some column → slice_get (names_of columns) place ≡ Some column.field.name
name_at columns place column e = slice_get-map (λ (c : PgColumn). c.field.name) columns place ∙ ap (option_map (λ (c : PgColumn). c.field.name)) e

-- one name more is another
pub all_behind : (names : List (List ℕ)) (name other : List ℕ) (place : ℕ) → 0 < place → slice_get names (place - 1) ≡ Some other → other ≢ name → AllByRecursion (λ n. n ≢ name) (drop place names) → AllByRecursion (λ n. n ≢ name) (drop (place - 1) names)
all_behind names name other place some at differs behind =
    subst (AllByRecursion (λ n. n ≢ name)) (sym (drop_at names (place - 1) other at)) (differs, subst (λ (k : ℕ). AllByRecursion (λ n. n ≢ name) (drop k names)) (omega (arith, some)) behind)

-- a column that is read at a place
pub read_at : (columns : List PgColumn) (place : ℕ) (column : PgColumn) → place < length columns → column ≡ get_or columns place column → slice_get columns place ≡ Some column
read_at columns place column l e = slice_get_read columns (length columns) place column refl l e
