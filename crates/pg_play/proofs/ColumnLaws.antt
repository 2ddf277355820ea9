-- Columns that tell what was looked up, beside those that were described.
use Rattle.std.proofs.Common.{◌≡◌, ℕ, List, [], ◌∷◌, length, Option, Some, None, option_map, unwrap_or, refl, sym, ap, ◌∙◌, subst}
use Rattle.std.specs.List.{AllByRecursion}
use Rattle.std.proofs.lemmas.List.{length-map}
use Rattle.pg_wire.specs.Backend.{FieldDescription}
use Rattle.pg_wire.specs.Fields.{described}
use Rattle.pg_columns.specs.declared.column.PgColumn.{PgColumn}
use Rattle.pg_columns.specs.Told.{told_by}
use Rattle.pg_exchanges.specs.Keeping.{Spares}
use Rattle.pg_rule.specs.declared.cache.Entry.{Entry}
use Rattle.pg_learning.specs.declared.learnt.Learnt.{Learnt}
use Rattle.pg_learning.specs.Telling.{learnt_columns}
use Rattle.pg_call.specs.Requests.{name_of}
use Rattle.pg_call.specs.declared.statement.Described.{Described}
use Rattle.pg_call.specs.declared.statement.Extended.{Extended}
use Rattle.pg_conn.specs.Looking.{described_with}
use Rattle.pg_conn.specs.Statements.{entry_of}
use Rattle.pg_play.specs.Kept.{IsKeptAt}
use Rattle.pg_play.specs.Places.{Place}

length_told : (columns : List PgColumn) → length (told_by columns) ≡ length columns
length_told columns = length-map columns (λ (column : PgColumn). described column.field)

pub told_width : (fields : List FieldDescription) (columns : List PgColumn) → told_by columns ≡ fields → length fields ≡ length columns
told_width fields columns e = sym (ap (λ (t : List FieldDescription). length t) e) ∙ length_told columns

-- nothing is learnt of what the server told of them
told_learnt : (a : Learnt) (columns : List PgColumn) → told_by (learnt_columns a columns) ≡ told_by columns
told_learnt a [] = refl
told_learnt a (column ∷ columns) = ap (λ (t : List FieldDescription). described column.field ∷ t) (told_learnt a columns)

-- nor of how many they are
pub learnt_width : (a : Learnt) (o : Option (List PgColumn)) → option_map (λ (c : List PgColumn). length c) (option_map (learnt_columns a) o) ≡ option_map (λ (c : List PgColumn). length c) o
learnt_width a None = refl
learnt_width a (Some columns) = ap (λ (n : ℕ). Some n) (length-map columns _)

pub learnt_some : (a : Learnt) (o : Option (List PgColumn)) → o ≡ Some (unwrap_or o []) → option_map (learnt_columns a) o ≡ Some (unwrap_or (option_map (learnt_columns a) o) [])
learnt_some a None e = absurd cc
learnt_some a (Some columns) e = refl

-- what is kept there stands there with other columns too of which the same was told
kept_as : (at : Place) (e : Entry) (columns : List PgColumn) → told_by columns ≡ told_by e.columns → IsKeptAt at e → IsKeptAt at (record e { columns = columns })
kept_as at e columns same k =
    let width : length e.columns ≡ length columns = sym (length_told e.columns) ∙ ap (λ (t : List FieldDescription). length t) (sym same) ∙ length_told columns in
    record {
      before = k.before;
      later = k.later;
      types = k.types;
      groups = k.groups;
      spared = subst (λ (n : ℕ). AllByRecursion (Spares (record { name = name_of e.statement; sql = e.sql; width = n })) k.later) width k.spared;
      told = k.told;
      more = k.more;
      answered = k.answered;
      read = k.read;
      ends = k.ends;
      has_frames = k.has_frames;
      well = k.well;
      columns = same ∙ k.columns;
    }

pub kept_learnt : (at : Place) (x : Extended) (d : Described) (a : Learnt) → IsKeptAt at (entry_of x d) → IsKeptAt at (entry_of x (described_with a d))
kept_learnt at x d a k = kept_as at (entry_of x d) (unwrap_or (option_map (learnt_columns a) d.columns) []) (by d.columns) k
  where
    by : (o : Option (List PgColumn)) → told_by (unwrap_or (option_map (learnt_columns a) o) []) ≡ told_by (unwrap_or o [])
    by None = refl
    by (Some columns) = told_learnt a columns
