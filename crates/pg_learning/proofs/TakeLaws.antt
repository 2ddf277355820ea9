-- A row of the lookup that is under way.
use Rattle.std.proofs.Common.{◌≡◌, [], inl, inr, ap, ◌∙◌, Result, Ok, Err, OnOk, OnErr, IfErr}
use Rattle.pg_wire.specs.declared.error.Error.{Error}
use Rattle.pg_wire.specs.declared.error.Error.TheVariants as errors
use Rattle.pg_wire.specs.Backend.{Values}
use Rattle.pg_resolve.specs.declared.row.TypeResolverRow.{TypeResolverRow}
use Rattle.pg_resolve.specs.declared.row.ColumnResolverRow.{ColumnResolverRow}
use Rattle.pg_resolve.specs.Resolving.{ResolverSeen}
use Rattle.pg_resolve.specs.Settling.{Settles, KeepsSound, IsRefusal}
use Rattle.pg_resolve.specs.Tables.{KeepsPart, with_row}
use Rattle.pg_learning.specs.Lookups.{IsTypeRow, IsColumnRow}
use Rattle.pg_learning.specs.declared.learnt.Learnt.{Learnt}
use Rattle.pg_learning.specs.declared.learnt.Seeking.TheVariants as seekings
use Rattle.pg_learning.specs.Learning.{TakesType, TakesNames}

pub takes_type : (s t : ResolverSeen) (values : Values) (row : TypeResolverRow) (a b : Learnt) (result : Result (Unit {0}) Error) → IsTypeRow values row → OnOk result (Settles row s a.types [] t b.types) → KeepsSound row s a.types b.types → IfErr result (IsRefusal row s a.types)
    → b ≡ record a { types = b.types; seeking = seekings.Types t } → TakesType s values a b result
takes_type s t values row a b (Ok u) is settles sound refused same = (row, t, is, settles, sound, same)
takes_type s t values row a b (Err e) is settles sound refused same = (ap (λ (x : Learnt). x.tables) same, inr (row, is, sound, refused))

pub takes_names : (values : Values) (row : ColumnResolverRow) (a b : Learnt) (result : Result (Unit {0}) Error) → IsColumnRow values row → OnOk result (b.tables ≡ with_row row a.tables) → OnErr result (KeepsPart row a.tables b.tables) → IfErr result (λ e. e ≡ errors.OutOfMemory)
    → b ≡ record a { tables = b.tables } → TakesNames values a b result
takes_names values row a b (Ok u) is kept part memory same = (row, is, same ∙ ap (λ t. record a { tables = t }) kept)
takes_names values row a b (Err e) is kept part memory same = (ap (λ (x : Learnt). x.types) same, inr (row, is, part, memory))
