-- The answer rule: what a call shows of its own reply, and what it answers at its end.
use Rattle.std.specs.Prelude.{ℕ, ◌+◌, ◌-◌, ◌^◌, min, Bool, true, false, List, [], ◌∷◌, ◌++◌, filter, flat_map, sum_by, Option, Some, None, option_map, Result, Ok, Err, if◌then◌else◌}
use Rattle.pg_wire.specs.declared.error.Error.{Error}
use Rattle.pg_wire.specs.declared.error.Error.TheVariants as errors
use Rattle.pg_wire.specs.declared.status.TransactionStatus.{TransactionStatus}
use Rattle.pg_wire.specs.declared.status.TransactionStatus.TheVariants as statuses
use Rattle.pg_wire.specs.Backend.{BackendMessage, RowDescription, DataRow, CommandComplete, ParameterDescription, CopyInResponse, BackendCopyData}
use Rattle.pg_wire.specs.Completion.{rows_affected}
use Rattle.pg_columns.specs.Told.{columns_of}
use Rattle.pg_rows.specs.declared.heading.Heading.{Heading}
use Rattle.pg_rows.specs.Rows.{RowSeen}
use Rattle.pg_call.specs.declared.kind.How.TheVariants as hows
use Rattle.pg_call.specs.declared.kind.Kind.{Kind}
use Rattle.pg_call.specs.declared.kind.Kind.TheVariants as kinds
use Rattle.pg_call.specs.declared.answer.CallItem.{CallItem}
use Rattle.pg_call.specs.declared.answer.CallItem.TheVariants.{Row, Count, Piece}
use Rattle.pg_call.specs.declared.answer.CallAnswer.{CallAnswer}
use Rattle.pg_call.specs.declared.answer.CallAnswer.TheVariants as answers
use Rattle.pg_call.specs.declared.judging.News.{News}
use Rattle.pg_call.specs.declared.judging.News.TheVariants as news
use Rattle.pg_call.specs.declared.request.Request.{Request}
use Rattle.pg_call.specs.declared.tally.Tally.{Tally}
use Rattle.pg_call.specs.Requests.{heading_of}

-- what a message tells: the columns of rows, a row, or the count of rows; the types of parameters; some data of a copy; or that the client is to send some
abbrev pub news_of : BackendMessage → News
news_of (RowDescription fields) = news.Columns (columns_of fields)
news_of (DataRow values) = news.Row values
news_of (CommandComplete tag) = news.Count (record { rows = rows_affected tag })
news_of (ParameterDescription types) = news.Parameters types
news_of (BackendCopyData bytes) = news.Piece bytes
news_of (CopyInResponse format columns) = news.Opens (record { format = format; format_codes = columns })
news_of _ = news.Nothing

-- the heading of the rows behind it, where their columns are kept
abbrev pub heading_by : Heading → News → Heading
heading_by heading (news.Columns columns) = record heading { columns = option_map (λ earlier. columns) heading.columns }
heading_by heading _ = heading

-- the item that it is: a row under its heading, a count, or a piece of a copy
abbrev pub item_by : Heading → News → List CallItem
item_by heading (news.Row values) = Row (record { values = values; heading = heading }) ∷ []
item_by heading (news.Count n) = Count n ∷ []
item_by heading (news.Piece bytes) = Piece bytes ∷ []
item_by heading _ = []

-- a row for each DataRow, under the columns that were described last, a count for each CommandComplete, and a piece for each CopyData
abbrev pub items_of : Heading → List BackendMessage → List CallItem
items_of heading [] = []
items_of heading (m ∷ ms) = item_by heading (news_of m) ++ items_of (heading_by heading (news_of m)) ms

-- the items of a call's own reply
abbrev pub own_items : Request → List BackendMessage → List CallItem
own_items r reply = items_of (heading_of r) reply

abbrev pub heading_after : Heading → List BackendMessage → Heading
heading_after heading [] = heading
heading_after heading (m ∷ ms) = heading_after (heading_by heading (news_of m)) ms

-- the types of parameters that were described last
abbrev pub parameters_by : List ℕ → News → List ℕ
parameters_by types (news.Parameters told) = told
parameters_by types _ = types

abbrev pub parameters_after : List ℕ → List BackendMessage → List ℕ
parameters_after types [] = types
parameters_after types (m ∷ ms) = parameters_after (parameters_by types (news_of m)) ms

abbrev pub row_in : CallItem → List RowSeen
row_in (Row row) = row ∷ []
row_in (Count n) = []
row_in (Piece bytes) = []

abbrev pub rows_in : List CallItem → List RowSeen
rows_in items = flat_map row_in items

abbrev pub count_in : CallItem → ℕ
count_in (Row row) = 0
count_in (Count n) = n.rows
count_in (Piece bytes) = 0

-- the sum of the counts, up to u64's greatest value
abbrev pub total_of : List CallItem → ℕ
total_of items = min (sum_by count_in items) (2 ^ 64 - 1)

abbrev pub first_row : List RowSeen → Option RowSeen
first_row [] = None
first_row (row ∷ rows) = Some row

-- whether a call shows this item as it comes
abbrev pub yields : Kind → CallItem → Bool
yields (kinds.Run hows.ExecuteMany) (Count n) = true
yields (kinds.Run hows.Fetch) (Row row) = true
yields (kinds.Run hows.FetchMany) (Count n) = true
yields (kinds.Run hows.FetchMany) (Row row) = true
yields kinds.CopyOut (Piece bytes) = true
yields _ _ = false

-- what it shows of all items
abbrev pub shown : Kind → List CallItem → List CallItem
shown kind items = filter (yields kind) items

-- whether each row is shown as it comes
abbrev pub shows_rows : Kind → Bool
shows_rows (kinds.Run hows.Fetch) = true
shows_rows (kinds.Run hows.FetchMany) = true
shows_rows _ = false

-- whether each count is
abbrev pub shows_counts : Kind → Bool
shows_counts (kinds.Run hows.ExecuteMany) = true
shows_counts (kinds.Run hows.FetchMany) = true
shows_counts _ = false

-- whether all rows come with the answer, or the first
abbrev pub keeps_all : Kind → Bool
keeps_all (kinds.Run hows.FetchAll) = true
keeps_all _ = false

abbrev pub keeps_first : Kind → Bool
keeps_first (kinds.Run hows.FetchOptional) = true
keeps_first (kinds.Run hows.FetchOne) = true
keeps_first _ = false

-- what is kept of all items for the answer
abbrev pub tally_of : Kind → List CallItem → Tally
tally_of kind items = record {
  total = total_of items;
  rows = if keeps_all kind then rows_in items else [];
  first = if keeps_first kind then first_row (rows_in items) else None;
}

-- the answer to all items and to the status behind them, or that there is no row where there must be one
abbrev pub one_row : Option RowSeen → Result CallAnswer Error
one_row None = Err errors.RowNotFound
one_row (Some row) = Ok (answers.OneRow (Some row))

-- a begin is answered by the status behind it: a transaction is open, or none is, or it has failed
abbrev pub begun : TransactionStatus → Result CallAnswer Error
begun statuses.Transaction = Ok answers.Unit
begun status = Err (errors.BeginFailed status)

abbrev pub finished : Kind → Tally → TransactionStatus → Result CallAnswer Error
finished (kinds.Run hows.Execute) t status = Ok (answers.Total (record { rows = t.total }))
finished (kinds.Run hows.FetchAll) t status = Ok (answers.Rows t.rows)
finished (kinds.Run hows.FetchOptional) t status = Ok (answers.OneRow t.first)
finished (kinds.Run hows.FetchOne) t status = one_row t.first
finished kinds.Begin t status = begun status
finished kinds.CopyIn t status = Ok (answers.Total (record { rows = t.total }))
finished _ t status = Ok answers.Unit

abbrev pub answer_to : Kind → List CallItem → TransactionStatus → Result CallAnswer Error
answer_to kind items status = finished kind (tally_of kind items) status

-- ---- item by item

abbrev pub empty_tally : Tally
empty_tally = record { total = 0; rows = []; first = None }

abbrev pub first_of : Option RowSeen → RowSeen → Option RowSeen
first_of None row = Some row
first_of (Some first) row = Some first

abbrev pub added : Kind → Tally → CallItem → Tally
added kind t (Count n) = record t { total = min (t.total + n.rows) (2 ^ 64 - 1) }
added kind t (Piece bytes) = t
added kind t (Row row) = record t {
  rows = if keeps_all kind then t.rows ++ row ∷ [] else t.rows;
  first = if keeps_first kind then first_of t.first row else t.first;
}

-- whether a row that comes now is shown or kept, where this is the first that was
abbrev pub keeps_row : Kind → Option RowSeen → Bool
keeps_row (kinds.Run hows.Fetch) first = true
keeps_row (kinds.Run hows.FetchMany) first = true
keeps_row (kinds.Run hows.FetchAll) first = true
keeps_row (kinds.Run hows.FetchOptional) None = true
keeps_row (kinds.Run hows.FetchOne) None = true
keeps_row _ _ = false

abbrev pub shown_if : Bool → CallItem → Option CallItem
shown_if true item = Some item
shown_if false item = None
