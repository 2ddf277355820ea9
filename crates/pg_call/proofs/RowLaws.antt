-- A row that is neither shown nor kept changes nothing.
use Rattle.std.proofs.Common.{◌≡◌, ℕ, ◌+◌, ◌-◌, ◌^◌, min, true, false, length, option_map, List, Option, Some, None, IsSome, Result, Ok, Err, IfOk, refl, sym, ap}
use Rattle.pg_wire.specs.declared.error.Error.{Error}
use Rattle.pg_wire.specs.Backend.{FieldDescription, BackendMessage, Values, RowDescription, DataRow, CommandComplete}
use Rattle.pg_wire.specs.Decoding.{Says}
use Rattle.pg_wire.specs.Completion.{rows_affected}
use Rattle.pg_wire.specs.Frame.{is_known}
use Rattle.pg_rows.specs.Rows.{RowSeen}
use Rattle.pg_columns.specs.Told.{columns_of}
use Rattle.pg_columns.specs.declared.column.PgColumn.{PgColumn}
use Rattle.pg_call.specs.declared.query_result.PgQueryResult.{PgQueryResult}
use Rattle.pg_call.proofs.PlaceLaws.{describes_at, ends_at}
use Rattle.pg_call.specs.declared.kind.How.TheVariants as hows
use Rattle.pg_call.specs.declared.kind.Kind.{Kind}
use Rattle.pg_call.specs.declared.kind.Kind.TheVariants as kinds
use Rattle.pg_call.specs.declared.answer.CallItem.TheVariants.{Count, Row}
use Rattle.pg_call.specs.declared.tally.Tally.{Tally}
use Rattle.pg_call.specs.declared.reply.Reply.{Reply}
use Rattle.pg_call.specs.declared.judging.Verdict.{Verdict}
use Rattle.pg_call.specs.declared.reply.Heard.{Heard}
use Rattle.pg_call.specs.declared.reply.Heard.TheVariants as heards
use Rattle.pg_call.specs.Items.{added, first_of, keeps_row, shows_counts, shows_rows, yields}
use Rattle.pg_call.specs.Replies.{after_columns, after_end, goes_on, tags_of, IsVerdict, Judges}
use Rattle.pg_call.specs.declared.judging.Part.{Part}
use Rattle.pg_call.specs.Hearing.{Hears, HearsMessage}

first_stays : (first : Option RowSeen) (row : RowSeen) → keeps_row (kinds.Run hows.FetchOne) first ≡ false → first_of first row ≡ first
first_stays None row e = absurd cc
first_stays (Some kept) row e = refl

adds_none : (kind : Kind) (t : Tally) (row : RowSeen) → keeps_row kind t.first ≡ false → added kind t (Row row) ≡ t
adds_none (kinds.Run hows.Execute) t row e = refl
adds_none (kinds.Run hows.ExecuteMany) t row e = refl
adds_none (kinds.Run hows.Fetch) t row e = absurd cc
adds_none (kinds.Run hows.FetchMany) t row e = absurd cc
adds_none (kinds.Run hows.FetchAll) t row e = absurd cc
adds_none (kinds.Run hows.FetchOptional) t row e = ap (λ (first : Option RowSeen). record t { first = first }) (optional_stays t.first row e)
  where
    optional_stays : (first : Option RowSeen) (row : RowSeen) → keeps_row (kinds.Run hows.FetchOptional) first ≡ false → first_of first row ≡ first
    optional_stays None row e = absurd cc
    optional_stays (Some kept) row e = refl
adds_none (kinds.Run hows.FetchOne) t row e = ap (λ (first : Option RowSeen). record t { first = first }) (first_stays t.first row e)
adds_none kinds.Describe t row e = refl
adds_none kinds.Prepare t row e = refl
adds_none kinds.Clear t row e = refl
adds_none kinds.Begin t row e = refl
adds_none kinds.Commit t row e = refl
adds_none kinds.Rollback t row e = refl
adds_none kinds.CopyOut t row e = refl
adds_none kinds.CopyIn t row e = refl
adds_none kinds.Ping t row e = refl
adds_none kinds.Flush t row e = refl
adds_none kinds.Close t row e = refl

yields_none : (kind : Kind) (first : Option RowSeen) (row : RowSeen) → keeps_row kind first ≡ false → yields kind (Row row) ≡ false
yields_none (kinds.Run hows.Execute) first row e = refl
yields_none (kinds.Run hows.ExecuteMany) first row e = refl
yields_none (kinds.Run hows.Fetch) first row e = absurd cc
yields_none (kinds.Run hows.FetchMany) first row e = absurd cc
yields_none (kinds.Run hows.FetchAll) first row e = refl
yields_none (kinds.Run hows.FetchOptional) first row e = refl
yields_none (kinds.Run hows.FetchOne) first row e = refl
yields_none kinds.Describe first row e = refl
yields_none kinds.Prepare first row e = refl
yields_none kinds.Clear first row e = refl
yields_none kinds.Begin first row e = refl
yields_none kinds.Commit first row e = refl
yields_none kinds.Rollback first row e = refl
yields_none kinds.CopyOut first row e = refl
yields_none kinds.CopyIn first row e = refl
yields_none kinds.Ping first row e = refl
yields_none kinds.Flush first row e = refl
yields_none kinds.Close first row e = refl

pub passes_row : (a : Reply) (body : List ℕ) (values : Values) (next : Part) → Says 68 body (DataRow values) → goes_on a.part (DataRow values) ≡ Some next → keeps_row a.kind a.tally.first ≡ false → Hears a (record a { part = next }) 68 body heards.More
passes_row a body values next says goes keeps =
    let row : RowSeen = record { values = values; heading = a.heading } in
    let none : yields a.kind (Row row) ≡ false = yields_none a.kind a.tally.first row keeps in
    let same : added a.kind a.tally (Row row) ≡ a.tally = adds_none a.kind a.tally row keeps in
    (DataRow values, says, (next, goes, ap (λ (t : Tally). record a { tally = t; part = next }) (sym same), rw none refl, tt))

-- one that is kept for the answer with all others is shown by none
pub keeps_all_row : (a : Reply) (body : List ℕ) (values : Values) (next : Part) → Says 68 body (DataRow values) → goes_on a.part (DataRow values) ≡ Some next → a.kind ≡ kinds.Run hows.FetchAll
    → Hears a (record a { tally = added a.kind a.tally (Row (record { values = values; heading = a.heading })); part = next }) 68 body heards.More
keeps_all_row a body values next says goes all = (DataRow values, says, (next, goes, refl, rw all refl, tt))

-- one that is shown at once stays nowhere
shows_added : (kind : Kind) (t : Tally) (row : RowSeen) → shows_rows kind ≡ true → (added kind t (Row row) ≡ t) × (yields kind (Row row) ≡ true)
shows_added (kinds.Run hows.Fetch) t row e = (refl, refl)
shows_added (kinds.Run hows.FetchMany) t row e = (refl, refl)
shows_added _ t row e = absurd cc

pub shows_row : (a : Reply) (body : List ℕ) (values : Values) (next : Part) → Says 68 body (DataRow values) → goes_on a.part (DataRow values) ≡ Some next → shows_rows a.kind ≡ true
    → Hears a (record a { part = next }) 68 body (heards.Yields (Row (record { values = values; heading = a.heading })))
shows_row a body values next says goes shows =
    let added_none = shows_added a.kind a.tally (record { values = values; heading = a.heading }) shows in
    (DataRow values, says, (next, goes, ap (λ (t : Tally). record a { tally = t; part = next }) (sym added_none.0), rw added_none.1 refl, tt))

-- so do columns that nobody sees
pub passes_columns : (a : Reply) (body : List ℕ) (fields : List FieldDescription) (next : Part) → Says 84 body (RowDescription fields) → goes_on a.part (RowDescription fields) ≡ Some next → a.heading.columns ≡ None → Hears a (record a { part = next }) 84 body heards.More
passes_columns a body fields next says goes none =
    (RowDescription fields, says, (next, goes, ap (λ (c : Option (List PgColumn)). record a { part = next; heading = record a.heading { columns = c } }) (rw none refl), refl, tt))

-- nor does a count that is not shown at once do more than count
counts_none : (kind : Kind) (n : PgQueryResult) → shows_counts kind ≡ false → yields kind (Count n) ≡ false
counts_none (kinds.Run hows.ExecuteMany) n e = absurd cc
counts_none (kinds.Run hows.FetchMany) n e = absurd cc
counts_none _ n e = refl

pub passes_end : (a : Reply) (body : List ℕ) (tag : List ℕ) → Says 67 body (CommandComplete tag) → is_known (tags_of a.part) 67 ≡ true → shows_counts a.kind ≡ false
    → Hears a (record a { tally = record a.tally { total = min (a.tally.total + rows_affected tag) (2 ^ 64 - 1) }; part = after_end a.part }) 67 body heards.More
passes_end a body tag says known plain = (CommandComplete tag, says, (after_end a.part, ends_at a.part tag known, refl, rw (counts_none a.kind (record { rows = rows_affected tag }) plain) refl, tt))

-- columns that somebody sees stand in the heading
pub keeps_columns : (a : Reply) (body : List ℕ) (fields : List FieldDescription) → Says 84 body (RowDescription fields) → is_known (tags_of a.part) 84 ≡ true → IsSome a.heading.columns
    → Hears a (record a { part = after_columns a.part (length fields); heading = record a.heading { columns = Some (columns_of fields) } }) 84 body heards.More
keeps_columns a body fields says known some =
    (RowDescription fields, says, (after_columns a.part (length fields), describes_at a.part fields known, ap (λ (c : Option (List PgColumn)). record a { part = after_columns a.part (length fields); heading = record a.heading { columns = c } }) (by a.heading.columns some), refl, tt))
  where
    by : (earlier : Option (List PgColumn)) → IsSome earlier → Some (columns_of fields) ≡ option_map (λ e. columns_of fields) earlier
    by (Some e) some = refl
    by None some = absurd cc

-- what a verdict makes of the reply is what its message does
pub hears_verdict : (a b : Reply) (tag : ℕ) (body : List ℕ) (verdict : Verdict) (r : Result Heard Error) → Judges a.part tag body (Ok verdict) → IfOk r (λ heard. (m : BackendMessage) → IsVerdict a.part m verdict → HearsMessage a b m heard) → IfOk r (Hears a b tag body)
hears_verdict a b tag body verdict (Ok heard) judged f = (judged.0, judged.1, f judged.0 judged.2)
hears_verdict a b tag body verdict (Err e) judged f = tt
