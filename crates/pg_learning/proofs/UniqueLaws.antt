-- Each value and each row is read in one way.
use Rattle.std.proofs.Common.{◌≡◌, ◌==◌, ℕ, ℤ, List, [], ◌∷◌, Option, Some, None, refl, sym, ap, subst, ◌∙◌}
use Rattle.std.specs.Prelude.{MatchOption, slice_get, if◌then◌else◌}
use Rattle.std.specs.Int.{w16}
use Rattle.std.proofs.lemmas.Option.{same_Some}
use Rattle.pg_values.specs.Arrays.{ReadsEach}
use Rattle.pg_values.specs.Values.{IsTextOf, IsOidText, IsDecimal}
use Rattle.pg_values.proofs.TextLaws.{array_unique}
use Rattle.pg_resolve.specs.declared.codes.TypType.{TypType}
use Rattle.pg_resolve.specs.declared.codes.TypType.TheVariants as types
use Rattle.pg_resolve.specs.declared.codes.TypCategory.{TypCategory}
use Rattle.pg_resolve.specs.declared.codes.TypCategory.TheVariants as categories
use Rattle.pg_resolve.specs.declared.row.TypeResolverRow.{TypeResolverRow}
use Rattle.pg_resolve.specs.declared.row.ColumnResolverRow.{ColumnResolverRow}
use Rattle.pg_learning.specs.Texts.{IsTypType, IsTypCategory, typtype_code, typcategory_code, Given, GivenOrNull, AreItems, AreTwo, IsPair}
use Rattle.pg_learning.specs.Lookups.{Values, At, IsTypeRow, IsColumnRow, AreAttributes, AreColumns}
use Rattle.pg_learning.proofs.ReadLaws.{record_unique}

abbrev Unique : {X : Type 0} → (List ℕ → X → Type 0) → Type 0
Unique means = (bytes : List ℕ) (x y : _) → means bytes x → means bytes y → x ≡ y

abbrev UniqueOf : {X : Type 0} → (Option (List ℕ) → X → Type 0) → Type 0
UniqueOf reads = (value : Option (List ℕ)) (x y : _) → reads value x → reads value y → x ≡ y

text_unique : Unique IsTextOf
text_unique bytes x y a b = a.1 ∙ sym b.1

oid_unique : Unique IsOidText
oid_unique bytes x y a b = a.2 ∙ sym b.2

number_unique : Unique (IsDecimal w16)
number_unique bytes x y a b = a.2 ∙ sym b.2

-- ---- codes

head_is : (c d : ℕ) → c ∷ [] ≡ d ∷ [] → c ≡ d
head_is c d e = cc

typtype_under : ℕ → Option TypType
typtype_under n = if n == 98 then Some types.Base else if n == 99 then Some types.Composite else if n == 100 then Some types.Domain else if n == 101 then Some types.Enum else if n == 112 then Some types.Pseudo else Some types.Range

typtype_again : (t : TypType) → typtype_under (typtype_code t) ≡ Some t
unfolding typtype_under
typtype_again types.Base = refl
typtype_again types.Composite = refl
typtype_again types.Domain = refl
typtype_again types.Enum = refl
typtype_again types.Pseudo = refl
typtype_again types.Range = refl

typtype_unique : Unique IsTypType
typtype_unique bytes x y a b = same_Some x y (sym (typtype_again x) ∙ ap typtype_under (head_is (typtype_code x) (typtype_code y) (sym a ∙ b)) ∙ typtype_again y)

typcategory_under : ℕ → Option TypCategory
typcategory_under n =
    if n == 65 then Some categories.Array else if n == 66 then Some categories.Boolean else if n == 67 then Some categories.Composite else if n == 68 then Some categories.DateTime else if n == 69 then Some categories.Enum
    else if n == 71 then Some categories.Geometric else if n == 73 then Some categories.Network else if n == 78 then Some categories.Numeric else if n == 80 then Some categories.Pseudo else if n == 82 then Some categories.Range
    else if n == 83 then Some categories.String else if n == 84 then Some categories.Timespan else if n == 85 then Some categories.User else if n == 86 then Some categories.BitString else Some categories.Unknown

typcategory_again : (t : TypCategory) → typcategory_under (typcategory_code t) ≡ Some t
unfolding typcategory_under
typcategory_again categories.Array = refl
typcategory_again categories.Boolean = refl
typcategory_again categories.Composite = refl
typcategory_again categories.DateTime = refl
typcategory_again categories.Enum = refl
typcategory_again categories.Geometric = refl
typcategory_again categories.Network = refl
typcategory_again categories.Numeric = refl
typcategory_again categories.Pseudo = refl
typcategory_again categories.Range = refl
typcategory_again categories.String = refl
typcategory_again categories.Timespan = refl
typcategory_again categories.User = refl
typcategory_again categories.BitString = refl
typcategory_again categories.Unknown = refl

typcategory_unique : Unique IsTypCategory
typcategory_unique bytes x y a b =
    same_Some x y (sym (typcategory_again x) ∙ ap typcategory_under (head_is (typcategory_code x) (typcategory_code y) (sym a ∙ b)) ∙ typcategory_again y)

-- ---- nulls, arrays and records

given_unique : {X : Type 0} (means : List ℕ → X → Type 0) → Unique means → UniqueOf (Given means)
given_unique means u None x y a b = absurd a
given_unique means u (Some bytes) x y a b = u bytes x y a b

null_unique : {X : Type 0} (means : List ℕ → X → Type 0) → Unique means → UniqueOf (GivenOrNull means)
null_unique means u None None None a b = refl
null_unique means u None None (Some y) a b = absurd b
null_unique means u None (Some x) y a b = absurd a
null_unique means u (Some bytes) None y a b = absurd a
null_unique means u (Some bytes) (Some x) None a b = absurd b
null_unique means u (Some bytes) (Some x) (Some y) a b = ap Some (u bytes x y a b)

each_unique : {X : Type 0} (reads : Option (List ℕ) → X → Type 0) → UniqueOf reads → (values : Values) (xs ys : List X) → ReadsEach reads values xs → ReadsEach reads values ys → xs ≡ ys
each_unique reads u [] [] [] a b = refl
each_unique reads u [] [] (y ∷ ys) a b = absurd b
each_unique reads u [] (x ∷ xs) ys a b = absurd a
each_unique reads u (v ∷ vs) [] ys a b = absurd a
each_unique reads u (v ∷ vs) (x ∷ xs) [] a b = absurd b
each_unique reads u (v ∷ vs) (x ∷ xs) (y ∷ ys) a b =
    let first = u v x y a.0 b.0 in
    let rest = each_unique reads u vs xs ys a.1 b.1 in
    rw (first, rest) refl

items_unique : {X : Type 0} (means : List ℕ → X → Type 0) → Unique means → Unique (AreItems means)
items_unique means u bytes xs ys a b =
    each_unique (Given means) (given_unique means u) a.0 xs ys a.3 (subst (λ (w : Values). ReadsEach (Given means) w ys) (array_unique bytes b.0 a.0 b.2 a.2) b.3)

two_unique : {X Y : Type 0} (first : List ℕ → X → Type 0) (second : List ℕ → Y → Type 0) → Unique first → Unique second → (fields : Values) (x y : X × Y) → AreTwo first second fields x → AreTwo first second fields y → x ≡ y
two_unique first second u w [] x y a b = absurd a
two_unique first second u w (v ∷ []) x y a b = absurd a
two_unique first second u w (v ∷ z ∷ []) x y a b =
    let one = given_unique first u v x.0 y.0 a.0 b.0 in
    let two = given_unique second w z x.1 y.1 a.1 b.1 in
    same_pair x y one two
  where
    same_pair : {X Y : Type 0} (x y : X × Y) → x.0 ≡ y.0 → x.1 ≡ y.1 → x ≡ y
    same_pair (a, b) (c, d) e f = rw (e, f) refl
two_unique first second u w (v ∷ z ∷ s ∷ ss) x y a b = absurd a

pair_unique : {X Y : Type 0} (first : List ℕ → X → Type 0) (second : List ℕ → Y → Type 0) → Unique first → Unique second → Unique (IsPair first second)
pair_unique first second u w bytes x y a b = two_unique first second u w a.0 x y a.3 (subst (λ (fields : Values). AreTwo first second fields y) (record_unique bytes b.0 a.0 b.2 a.2) b.3)

-- ---- columns and rows

at_unique : {X : Type 0} (reads : Option (List ℕ) → X → Type 0) → UniqueOf reads → (values : Values) (place : ℕ) (x y : X) → At reads values place x → At reads values place y → x ≡ y
at_unique reads u values place x y a b = by_value (slice_get values place) a b
  where
    by_value : (o : Option (Option (List ℕ))) → MatchOption o ⊥ (λ v. reads v x) → MatchOption o ⊥ (λ v. reads v y) → x ≡ y
    by_value None a b = absurd a
    by_value (Some v) a b = u v x y a b

abbrev column_row_of : ℕ → List ℕ → List (ℤ × List ℕ) → ColumnResolverRow
column_row_of oid name columns = record { table_oid = oid; table_name = name; columns = columns }

abbrev type_row_of : ℕ → List ℕ → List ℕ → Option (List ℕ) → TypType → TypCategory → Option ℕ → Option ℕ → Option ℕ → List (List ℕ) → List (List ℕ × ℕ) → TypeResolverRow
type_row_of oid pretty catalog original typtype typcategory element base subtype labels attributes =
    record { oid = oid; pretty_name = pretty; catalog_name = catalog; original_name = original; typtype = typtype; typcategory = typcategory; typelem = element; typbasetype = base; rngsubtype = subtype; enum_labels = labels; record_attributes = attributes }

pub column_row_unique : (values : Values) (a b : ColumnResolverRow) → IsColumnRow values a → IsColumnRow values b → a ≡ b
column_row_unique values a b p q =
    let table = at_unique (Given IsOidText) (given_unique IsOidText oid_unique) values 0 a.table_oid b.table_oid p.table_oid q.table_oid in
    let name = at_unique (Given IsTextOf) (given_unique IsTextOf text_unique) values 1 a.table_name b.table_name p.table_name q.table_name in
    let numbered = items_unique (IsPair (IsDecimal w16) IsTextOf) (pair_unique (IsDecimal w16) IsTextOf number_unique text_unique) in
    let columns = at_unique (Given AreColumns) (given_unique AreColumns numbered) values 2 a.columns b.columns p.columns q.columns in
    same_row a b table name columns
  where
    same_row : (a b : ColumnResolverRow) → a.table_oid ≡ b.table_oid → a.table_name ≡ b.table_name → a.columns ≡ b.columns → a ≡ b
    same_row a b e f g =
        let whole : column_row_of a.table_oid a.table_name a.columns ≡ column_row_of b.table_oid b.table_name b.columns = rw (e, f, g) refl in
        whole

pub type_row_unique : (values : Values) (a b : TypeResolverRow) → IsTypeRow values a → IsTypeRow values b → a ≡ b
type_row_unique values a b p q =
    let given_oid = given_unique IsOidText oid_unique in
    let given_text = given_unique IsTextOf text_unique in
    let null_oid = null_unique IsOidText oid_unique in
    let labels = items_unique IsTextOf text_unique in
    let attributes = items_unique (IsPair IsTextOf IsOidText) (pair_unique IsTextOf IsOidText text_unique oid_unique) in
    same_row a b
    (at_unique (Given IsOidText) given_oid values 0 a.oid b.oid p.oid q.oid)
    (at_unique (Given IsTextOf) given_text values 1 a.pretty_name b.pretty_name p.pretty_name q.pretty_name)
    (at_unique (Given IsTextOf) given_text values 2 a.catalog_name b.catalog_name p.catalog_name q.catalog_name)
    (at_unique (GivenOrNull IsTextOf) (null_unique IsTextOf text_unique) values 3 a.original_name b.original_name p.original_name q.original_name)
    (at_unique (Given IsTypType) (given_unique IsTypType typtype_unique) values 4 a.typtype b.typtype p.typtype q.typtype)
    (at_unique (Given IsTypCategory) (given_unique IsTypCategory typcategory_unique) values 5 a.typcategory b.typcategory p.typcategory q.typcategory)
    (at_unique (GivenOrNull IsOidText) null_oid values 6 a.typelem b.typelem p.typelem q.typelem)
    (at_unique (GivenOrNull IsOidText) null_oid values 7 a.typbasetype b.typbasetype p.typbasetype q.typbasetype)
    (at_unique (GivenOrNull IsOidText) null_oid values 8 a.rngsubtype b.rngsubtype p.rngsubtype q.rngsubtype)
    (at_unique (Given (AreItems IsTextOf)) (given_unique (AreItems IsTextOf) labels) values 9 a.enum_labels b.enum_labels p.enum_labels q.enum_labels)
    (at_unique (Given AreAttributes) (given_unique AreAttributes attributes) values 10 a.record_attributes b.record_attributes p.record_attributes q.record_attributes)
  where
    same_row : (a b : TypeResolverRow) → a.oid ≡ b.oid → a.pretty_name ≡ b.pretty_name → a.catalog_name ≡ b.catalog_name → a.original_name ≡ b.original_name → a.typtype ≡ b.typtype → a.typcategory ≡ b.typcategory → a.typelem ≡ b.typelem → a.typbasetype ≡ b.typbasetype → a.rngsubtype ≡ b.rngsubtype → a.enum_labels ≡ b.enum_labels → a.record_attributes ≡ b.record_attributes → a ≡ b
    same_row a b e0 e1 e2 e3 e4 e5 e6 e7 e8 e9 e10 =
        let whole : type_row_of a.oid a.pretty_name a.catalog_name a.original_name a.typtype a.typcategory a.typelem a.typbasetype a.rngsubtype a.enum_labels a.record_attributes
        ≡ type_row_of b.oid b.pretty_name b.catalog_name b.original_name b.typtype b.typcategory b.typelem b.typbasetype b.rngsubtype b.enum_labels b.record_attributes = rw (e0, e1, e2, e3, e4, e5, e6, e7, e8, e9, e10) refl in
        whole
