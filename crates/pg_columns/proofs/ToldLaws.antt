-- What was told of columns that were made of their descriptions.
use Rattle.std.proofs.Common.{◌≡◌, ◌≢◌, ℕ, zero, suc, ◌+◌, List, [], ◌∷◌, length, map, Option, Some, None, IfSome, unwrap_or, refl, sym, ap, ◌∙◌}
use Rattle.std.specs.Prelude.{ℤ, pos, negsuc}
use Rattle.std.specs.List.{AllByRecursion}
use Rattle.std.proofs.lemmas.List.{length-map}
use Rattle.pg_wire.specs.declared.message.row_description.Field.{Field}
use Rattle.pg_wire.specs.Backend.{FieldDescription}
use Rattle.pg_wire.specs.Fields.{described, TellsNone}
use Rattle.pg_columns.specs.Told.{table_of, attribute_of, field_of, made_columns, columns_of, told_by}

pub told_made : (n : ℕ) (fs : List Field) → told_by (made_columns n fs) ≡ map described fs
told_made n [] = refl
told_made n (f ∷ fs) = ap (λ (t : List FieldDescription). described f ∷ t) (told_made (n + 1) fs)

length_made : (n : ℕ) (fs : List Field) → length (made_columns n fs) ≡ length fs
length_made n [] = refl
length_made n (f ∷ fs) = ap (λ (k : ℕ). suc k) (length_made (n + 1) fs)

pub length_columns : (fields : List FieldDescription) → length (columns_of fields) ≡ length fields
length_columns fields = length_made 0 (map field_of fields) ∙ length-map fields field_of

table_back : (o : Option ℕ) → IfSome o (λ n. n ≢ 0) → table_of (unwrap_or o 0) ≡ o
table_back None h = refl
table_back (Some zero) h = absurd (h refl)
table_back (Some (suc n)) h = refl

attribute_back : (o : Option ℤ) → IfSome o (λ z. z ≢ pos 0) → attribute_of (unwrap_or o (pos 0)) ≡ o
attribute_back None h = refl
attribute_back (Some (pos zero)) h = absurd (h refl)
attribute_back (Some (pos (suc n))) h = refl
attribute_back (Some (negsuc n)) h = refl

field_back : (f : Field) → TellsNone f → field_of (described f) ≡ f
field_back f h = rw (table_back f.relation_id h.0, attribute_back f.relation_attribute_no h.1) refl

fields_back : (fs : List Field) → AllByRecursion TellsNone fs → map field_of (map described fs) ≡ fs
fields_back [] h = refl
fields_back (f ∷ fs) h = rw (field_back f h.0, fields_back fs h.1) refl

-- the columns of their descriptions are these
pub made_back : (fs : List Field) → AllByRecursion TellsNone fs → made_columns 0 fs ≡ columns_of (map described fs)
made_back fs h = ap (made_columns 0) (sym (fields_back fs h))

-- what was told of the columns of descriptions are these again
told_table : (n : ℕ) → unwrap_or (table_of n) 0 ≡ n
told_table zero = refl
told_table (suc n) = refl

told_attribute : (z : ℤ) → unwrap_or (attribute_of z) (pos 0) ≡ z
told_attribute (pos zero) = refl
told_attribute (pos (suc n)) = refl
told_attribute (negsuc n) = refl

told_field : (f : FieldDescription) → described (field_of f) ≡ f
told_field f = rw (told_table f.table, told_attribute f.attribute) refl

told_fields : (fs : List FieldDescription) → map described (map field_of fs) ≡ fs
told_fields [] = refl
told_fields (f ∷ fs) = rw (told_field f, told_fields fs) refl

pub told_columns : (fields : List FieldDescription) → told_by (columns_of fields) ≡ fields
told_columns fields = told_made 0 (map field_of fields) ∙ told_fields fields
