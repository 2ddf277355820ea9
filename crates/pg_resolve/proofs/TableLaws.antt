-- The names of tables and columns as a function of a table and of the number of its column.
use Rattle.std.proofs.Common.{◌≡◌, ◌≢◌, inl, inr, ℕ, ℤ, ◌*◌, ◌+◌, ◌<◌, ◌^◌, List, [], ◌∷◌, ◌++◌, refl, sym, ap, ap₂, subst, ◌∙◌, Option, Some, None, unwrap_or, arith}
use Rattle.std.specs.Prelude.{FitsSigned}
use Rattle.std.specs.Ordering.{nat_cmp}
use Rattle.std.specs.Int.{w16, cast_unsigned, cast_signed}
use Rattle.std.proofs.lemmas.Int.{to_z-of_z}
use Rattle.pg_wire.proofs.ReaderLaws.{signed_bound16}
use Rattle.pg_resolve.specs.declared.row.ColumnResolverRow.{ColumnResolverRow}
use Rattle.pg_resolve.specs.Cached.{number_at}
use Rattle.pg_resolve.specs.Settling.{Has}
use Rattle.pg_resolve.specs.Tables.{TablesSeen, column_key, table_name, column_name, column_named, both_names, enter_where, enter_table, put_column, put_columns, with_row, HaveNumbers, IsLastName}
use Rattle.pg_resolve.proofs.MapLaws.{number_keys, put_same, put_other}
use Rattle.pg_resolve.proofs.SettlingLaws.{has_right, has_in}

abbrev Column : Type 0
Column = ℤ × List ℕ

-- ---- one key for each pair

-- the words of two tables' columns, where a word is below 2 ^ 16
same_words : (m n x y : ℕ) → x < 2 ^ 16 → y < 2 ^ 16 → 65536 * m + x ≡ 65536 * n + y → (m ≡ n) × (x ≡ y)
same_words m n x y l k e =
    let tables : m ≡ n = omega (arith, e, l, k) in
    (tables, omega (arith, e, tables))

pub same_column : (m n : ℕ) (a b : ℤ) → FitsSigned w16 a → FitsSigned w16 b → column_key m a ≡ column_key n b → (m ≡ n) × (a ≡ b)
unfolding column_key
same_column m n a b h k e =
    let w = same_words m n (cast_unsigned w16 a) (cast_unsigned w16 b) (signed_bound16 a h) (signed_bound16 b k) e in
    (w.0, sym (to_z-of_z w16 a h) ∙ ap (cast_signed w16) w.1 ∙ to_z-of_z w16 b k)

-- ---- several columns

put_append : (table : ℕ) (xs ys : List Column) (c : TablesSeen) → put_columns table (xs ++ ys) c ≡ put_columns table ys (put_columns table xs c)
put_append table [] ys c = refl
put_append table (x ∷ xs) ys c = put_append table xs ys (put_column table x c)

pub put_next : (table : ℕ) (front : List Column) (x : Column) (a b d : TablesSeen) → b ≡ put_columns table front a → d ≡ put_column table x b → d ≡ put_columns table (front ++ x ∷ []) a
put_next table front x a b d e f = f ∙ ap (put_column table x) e ∙ sym (put_append table front (x ∷ []) a)

tables_stay : (table : ℕ) (xs : List Column) (c : TablesSeen) → (put_columns table xs c).tables ≡ c.tables
tables_stay table [] c = refl
tables_stay table (x ∷ xs) c = tables_stay table xs (put_column table x c)

column_stays : (q table : ℕ) (xs : List Column) (c : TablesSeen) → ((x : Column) → Has xs x → q ≢ column_key table x.0) → number_at q (put_columns table xs c).columns ≡ number_at q c.columns
column_stays q table [] c apart = refl
column_stays q table (x ∷ xs) c apart =
    column_stays q table xs (put_column table x c) (λ y h. apart y (inr h)) ∙ put_other nat_cmp number_keys c.columns (column_key table x.0) q x.1 (apart x (inl refl))

column_last : (table : ℕ) (front back : List Column) (attribute : ℤ) (name : List ℕ) (c : TablesSeen) → ((x : Column) → Has back x → column_key table attribute ≢ column_key table x.0)
    → column_name (put_columns table (front ++ (attribute, name) ∷ back) c) table attribute ≡ Some name
column_last table front back attribute name c apart =
    let d : TablesSeen = put_columns table front c in
    ap (λ (s : TablesSeen). column_name s table attribute) (put_append table front ((attribute, name) ∷ back) c)
    ∙ column_stays (column_key table attribute) table back (put_column table (attribute, name) d) apart
    ∙ put_same nat_cmp number_keys d.columns (column_key table attribute) name

-- ---- a table's name

entered_here : (o : Option (List ℕ)) (table : ℕ) (name : List ℕ) (c : TablesSeen) → table_name c table ≡ o → table_name (enter_where o table name c) table ≡ Some (unwrap_or o name)
entered_here None table name c e = put_same nat_cmp number_keys c.tables table name
entered_here (Some other) table name c e = e

entered_elsewhere : (o : Option (List ℕ)) (q table : ℕ) (name : List ℕ) (c : TablesSeen) → q ≢ table → table_name (enter_where o table name c) q ≡ table_name c q
entered_elsewhere None q table name c apart = put_other nat_cmp number_keys c.tables table q name apart
entered_elsewhere (Some other) q table name c apart = refl

columns_stay : (o : Option (List ℕ)) (table : ℕ) (name : List ℕ) (c : TablesSeen) → (enter_where o table name c).columns ≡ c.columns
columns_stay None table name c = refl
columns_stay (Some other) table name c = refl

-- ---- what a row tells

last_apart : (table : ℕ) (attribute : ℤ) (name : List ℕ) (columns front back : List Column) → HaveNumbers columns → columns ≡ front ++ (attribute, name) ∷ back → ((other : List ℕ) → Has back (attribute, other) → ⊥)
    → (x : Column) → Has back x → column_key table attribute ≢ column_key table x.0
last_apart table attribute name columns front back numbers split never x h = λ e.
    let there : Has columns x = has_in _ _ x (sym split) (has_right front ((attribute, name) ∷ back) x (inr h)) in
    let here : Has columns (attribute, name) = has_in _ _ (attribute, name) (sym split) (has_right front ((attribute, name) ∷ back) (attribute, name) (inl refl)) in
    let same = same_column table table attribute x.0 (numbers (attribute, name) here) (numbers x there) e in
    never x.1 (subst (λ (z : ℤ). Has back (z, x.1)) (sym same.1) h)

pub row_tells : (row : ColumnResolverRow) (c : TablesSeen) (attribute : ℤ) (name : List ℕ) → HaveNumbers row.columns → IsLastName attribute name row.columns
    → column_named (with_row row c) row.table_oid attribute ≡ Some (unwrap_or (table_name c row.table_oid) row.table_name, name)
row_tells row c attribute name numbers last =
    let entered : TablesSeen = enter_table row.table_oid row.table_name c in
    let table : table_name (with_row row c) row.table_oid ≡ Some (unwrap_or (table_name c row.table_oid) row.table_name)
    = ap (number_at row.table_oid) (tables_stay row.table_oid row.columns entered) ∙ entered_here (table_name c row.table_oid) row.table_oid row.table_name c refl in
    let apart = last_apart row.table_oid attribute name row.columns last.0 last.1 numbers last.2 last.3 in
    let column : column_name (with_row row c) row.table_oid attribute ≡ Some name
    = ap (λ (xs : List Column). column_name (put_columns row.table_oid xs entered) row.table_oid attribute) last.2 ∙ column_last row.table_oid last.0 last.1 attribute name entered apart in
    ap₂ both_names table column

pub other_tables_stay : (row : ColumnResolverRow) (c : TablesSeen) (table : ℕ) → table ≢ row.table_oid → table_name (with_row row c) table ≡ table_name c table
other_tables_stay row c table apart =
    ap (number_at table) (tables_stay row.table_oid row.columns (enter_table row.table_oid row.table_name c)) ∙ entered_elsewhere (table_name c row.table_oid) table row.table_oid row.table_name c apart

pub other_columns_stay : (row : ColumnResolverRow) (c : TablesSeen) (table : ℕ) (attribute : ℤ) → HaveNumbers row.columns → FitsSigned w16 attribute → ((name : List ℕ) → Has row.columns (attribute, name) → table ≢ row.table_oid)
    → column_name (with_row row c) table attribute ≡ column_name c table attribute
other_columns_stay row c table attribute numbers fits other =
    column_stays (column_key table attribute) row.table_oid row.columns (enter_table row.table_oid row.table_name c) (λ x h e. let same = same_column table row.table_oid attribute x.0 fits (numbers x h) e in other x.1 (subst (λ (z : ℤ). Has row.columns (z, x.1)) (sym same.1) h) same.0)
    ∙ ap (number_at (column_key table attribute)) (columns_stay (table_name c row.table_oid) row.table_oid row.table_name c)
