-- A row in its generic form, column by column.
use Rattle.std.proofs.Common.{◌≡◌, ℕ, zero, suc, ◌+◌, ◌<◌, List, [], ◌∷◌, ◌++◌, length, get_or, map, take, sym, ◌∙◌, ap, subst, arith}
use Rattle.std.specs.Prelude.{Some, slice_get}
use Rattle.std.proofs.lemmas.List.{length-append, map-append}
use Rattle.pg_wire.specs.declared.error.Error.{Error}
use Rattle.pg_wire.specs.declared.error.Error.TheVariants as errors
use Rattle.pg_columns.specs.declared.column.PgColumn.{PgColumn}
use Rattle.pg_rows.specs.Rows.{RowSeen, columns_in, Reads, Misreads, IsUnread}
use Rattle.pg_any.specs.declared.column.AnyColumn.{AnyColumn}
use Rattle.pg_any.specs.declared.value.AnyValue.{AnyValue}
use Rattle.pg_any.specs.Columns.{any_column_of, RefusesColumn}
use Rattle.pg_any.specs.Rows.{RefusesRow}
use Rattle.pg_any.specs.Values.{ReadsAny}

pub stands_at : {A : Type 0} (xs : List A) (k : ℕ) (x : A) → k < length xs → x ≡ get_or xs k x → slice_get xs k ≡ Some x
stands_at [] k x below is = absurd (omega arith)
stands_at (y ∷ xs) zero x below is = ap (λ z. Some z) (sym is)
stands_at (y ∷ xs) (suc k) x below is = stands_at xs k x (omega arith) is

-- one more at the end
each_pushed : {A : Type 0} (P : ℕ → A → Type 0) (xs : List A) (x : A) → ((k : ℕ) (y : A) → slice_get xs k ≡ Some y → P k y) → P (length xs) x → (k : ℕ) (y : A) → slice_get (xs ++ x ∷ []) k ≡ Some y → P k y
each_pushed P [] x each last zero y is = let same : x ≡ y = cc in subst (P zero) same last
each_pushed P [] x each last (suc k) y is = cc
each_pushed P (z ∷ xs) x each last zero y is = each zero y is
each_pushed P (z ∷ xs) x each last (suc k) y is = each_pushed (λ i. P (suc i)) xs x (λ i. each (suc i)) last k y is

pub values_pushed : (row : RowSeen) (old new : List AnyValue) (place : ℕ) (x : AnyValue) → length old ≡ place → new ≡ old ++ x ∷ [] → ((k : ℕ) (y : AnyValue) → slice_get old k ≡ Some y → Reads ReadsAny row k y) → Reads ReadsAny row place x → (k : ℕ) (y : AnyValue) → slice_get new k ≡ Some y → Reads ReadsAny row k y
values_pushed row old new place x long is each last = rw is (each_pushed (Reads ReadsAny row) old x each (rw long last))

pub longer : {A : Type 0} (old new : List A) (n : ℕ) (x : A) → length old ≡ n → new ≡ old ++ x ∷ [] → length new ≡ n + 1
longer old new n x long is = rw is (omega (arith, long, length-append old (x ∷ [])))

mapped_pushed : {A B : Type 0} (f : A → B) (xs : List A) (i : ℕ) (x : A) → slice_get xs i ≡ Some x → map f (take (suc i) xs) ≡ map f (take i xs) ++ f x ∷ []
mapped_pushed f [] i x is = cc
mapped_pushed f (y ∷ xs) zero x is = let same : y ≡ x = cc in ap (λ z. f z ∷ []) same
mapped_pushed f (y ∷ xs) (suc i) x is = ap (λ zs. f y ∷ zs) (mapped_pushed f xs i x is)

pub columns_pushed : (columns : List PgColumn) (place : ℕ) (column : PgColumn) (any : AnyColumn) (old new : List AnyColumn) → slice_get columns place ≡ Some column → map any_column_of (take place columns) ≡ map (λ c. Some c) old → any_column_of column ≡ Some any → new ≡ old ++ any ∷ [] → map any_column_of (take (place + 1) columns) ≡ map (λ c. Some c) new
columns_pushed columns place column any old new stands before is more =
    let next : place + 1 ≡ suc place = omega arith in
    rw (next, more) (mapped_pushed any_column_of columns place column stands ∙ ap (λ cs. cs ++ any_column_of column ∷ []) before ∙ ap (λ c. map (λ c. Some c) old ++ c ∷ []) is ∙ sym (map-append (λ c. Some c) old (any ∷ [])))

-- a value that isn't read has no generic form
pub misread : (row : RowSeen) (place : ℕ) (e : Error) → place < length (columns_in row) → Misreads ReadsAny row place e → RefusesRow row e
misread row place errors.OutOfMemory below m = tt
misread row place (errors.ColumnDecode index) below m = subst (IsUnread ReadsAny row) (sym m.0) m.1
misread row place _ below m = absurd (omega (arith, m.0))

-- what has a generic value is a column of a kind
pub described : (row : RowSeen) (place : ℕ) (column : PgColumn) (x : AnyValue) (e : Error) → slice_get (columns_in row) place ≡ Some column → Reads ReadsAny row place x → RefusesColumn column e → RefusesRow row e
described row place column x errors.OutOfMemory stands read m = tt
described row place column x (errors.ColumnDecode index) stands read m = let same : column ≡ read.0 = cc (stands, read.1) in absurd (cc (same, m.1, read.2.1))
described row place column x _ stands read m = absurd m
