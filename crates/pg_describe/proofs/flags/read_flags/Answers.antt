use Rattle.std.proofs.Common.{◌≡◌, ℕ, List, None, Some, length, refl, sym, subst, slice_get}
use Rattle.std.proofs.lemmas.Option.{slice_get_read}
use Rattle.std.proofs.lemmas.Result.{err_from_is_err_and}
use Rattle.pg_wire.specs.declared.error.Error.{Error}
use Rattle.pg_wire.specs.declared.error.Error.TheVariants as errors
use Rattle.pg_rows.specs.Rows.{RowSeen}
use Rattle.pg_describe.specs.Flags.{RefusesFlags}
use Rattle.pg_conn.specs.Flags.{flag_in}
use Rattle.pg_describe.proofs.flags.read_flags.Goals as goal

unread : (rows : List RowSeen) (place : ℕ) (row : RowSeen) (e : Error) → slice_get rows place ≡ Some row → e ≡ errors.ColumnDecode 0 → flag_in row.values ≡ None → RefusesFlags rows e
unread rows place row e stands is none = subst (RefusesFlags rows) (sym is) (refl, (place, row, stands, none))

pub returns-in_err-flag-clause-err : goal.returns-in_err-flag-clause-err
returns-in_err-flag-clause-err c =
    let p = err_from_is_err_and c.from_residual.result c.from_residual.ensures.1 in
    let rows = c.args.rows.now in
    let stands = slice_get_read rows (length rows) c.loop-place.place c.index-rows-place.result refl c.loop-place-test.true c.index-rows-place.is in
    let e = c.in_err-flag.ensures.err in
    rw (p.1, p.2) (unread rows c.loop-place.place c.index-rows-place.result c.in_err-flag.field-0.0 stands e.0 e.1)
