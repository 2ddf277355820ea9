-- What may come where, by its tag.
use Rattle.std.proofs.Common.{◌≡◌, ℕ, ℤ, true, false, List, length, Some, None, refl, sym, ◌∙◌, ap, subst, Ok, Err, arith}
use Rattle.pg_wire.specs.declared.error.Error.{Error}
use Rattle.pg_wire.specs.declared.error.Error.TheVariants as errors
use Rattle.pg_wire.specs.declared.error.ProtocolFault.TheVariants as protocol
use Rattle.pg_wire.specs.declared.error.ServerFault.TheVariants as faults
use Rattle.pg_wire.specs.Frame.{Frame, is_known}
use Rattle.pg_wire.specs.Backend.{FieldDescription, Values, BackendMessage, backend_frame, ReadyForQuery, RowDescription, DataRow, CommandComplete, ErrorResponse, EmptyQueryResponse, ParameterDescription, ParseComplete, BindComplete, CloseComplete, NoData, CopyInResponse, CopyOutResponse, BackendCopyData, BackendCopyDone}
use Rattle.pg_wire.specs.Decoding.{Says}
use Rattle.pg_wire.proofs.Unique.{backend_frame_unique}
use Rattle.pg_call.specs.declared.judging.Part.{Part}
use Rattle.pg_call.specs.declared.judging.Part.TheVariants.{First, Further, Rows, Synced, Parsing, Typing, Describing, Described, Reparsing, Binding, Running, RunningOn, Closing, CopyFirst, CopyData, CopyEnd, Copied, Opening, Feeding}
use Rattle.pg_call.specs.Replies.{goes_on, goes_plainly, may_stray, may_close, after_row, after_bind, after_close, after_columns, after_end, after_opening, stray_tags, tags_of, MayNotCome, IsAny, IsFault, Judges, after_parse}
use Rattle.pg_call.specs.declared.judging.Verdict.{Verdict}
use Rattle.pg_call.specs.declared.judging.News.TheVariants.{Nothing}
use Rattle.pg_call.specs.Items.{news_of}

pub closes_at : (part : Part) → is_known (tags_of part) 90 ≡ true → may_close part ≡ true
closes_at Further k = refl
closes_at Synced k = refl
closes_at (Described columns) k = refl
closes_at Copied k = refl
closes_at (Feeding true) k = absurd cc
closes_at (Feeding false) k = absurd cc
closes_at _ k = absurd cc

pub describes_at : (part : Part) (fields : List FieldDescription) → is_known (tags_of part) 84 ≡ true → goes_on part (RowDescription fields) ≡ Some (after_columns part (length fields))
describes_at First fields k = refl
describes_at Further fields k = refl
describes_at Describing fields k = refl
describes_at (Feeding true) fields k = absurd cc
describes_at (Feeding false) fields k = absurd cc
describes_at _ fields k = absurd cc

pub describes_none_at : (part : Part) → is_known (tags_of part) 110 ≡ true → goes_on part NoData ≡ Some (Described 0)
describes_none_at Describing k = refl
describes_none_at (Feeding true) k = absurd cc
describes_none_at (Feeding false) k = absurd cc
describes_none_at _ k = absurd cc

pub types_at : (part : Part) (types : List ℕ) → is_known (tags_of part) 116 ≡ true → goes_on part (ParameterDescription types) ≡ Some Describing
types_at Typing types k = refl
types_at (Feeding true) types k = absurd cc
types_at (Feeding false) types k = absurd cc
types_at _ types k = absurd cc

pub parses_at : (part : Part) → is_known (tags_of part) 49 ≡ true → goes_on part ParseComplete ≡ Some (after_parse part)
parses_at Parsing k = refl
parses_at Reparsing k = refl
parses_at (Feeding true) k = absurd cc
parses_at (Feeding false) k = absurd cc
parses_at _ k = absurd cc

pub binds_at : (part : Part) → is_known (tags_of part) 50 ≡ true → goes_on part BindComplete ≡ Some (after_bind part)
binds_at (Binding width) k = refl
binds_at (Feeding true) k = absurd cc
binds_at (Feeding false) k = absurd cc
binds_at _ k = absurd cc

pub closes_one_at : (part : Part) → is_known (tags_of part) 51 ≡ true → goes_on part CloseComplete ≡ Some (after_close part)
closes_one_at (Closing more) k = refl
closes_one_at (Feeding true) k = absurd cc
closes_one_at (Feeding false) k = absurd cc
closes_one_at _ k = absurd cc

pub ends_at : (part : Part) (tag : List ℕ) → is_known (tags_of part) 67 ≡ true → goes_on part (CommandComplete tag) ≡ Some (after_end part)
ends_at First tag k = refl
ends_at Further tag k = refl
ends_at (Rows columns) tag k = refl
ends_at (Running width) tag k = refl
ends_at (RunningOn columns) tag k = refl
ends_at CopyEnd tag k = refl
ends_at (Feeding true) tag k = refl
ends_at (Feeding false) tag k = absurd cc
ends_at _ tag k = absurd cc

pub empties_at : (part : Part) → is_known (tags_of part) 73 ≡ true → goes_on part EmptyQueryResponse ≡ Some (after_end part)
empties_at First k = refl
empties_at Further k = refl
empties_at (Running width) k = refl
empties_at (RunningOn columns) k = refl
empties_at (Feeding true) k = absurd cc
empties_at (Feeding false) k = absurd cc
empties_at _ k = absurd cc

pub opens_at : (part : Part) (format : ℤ) (columns : List ℤ) → is_known (tags_of part) 71 ≡ true → goes_on part (CopyInResponse format columns) ≡ Some (after_opening part)
opens_at (Opening ended) format columns k = refl
opens_at (Feeding true) format columns k = absurd cc
opens_at (Feeding false) format columns k = absurd cc
opens_at _ format columns k = absurd cc

pub begins_copy_at : (part : Part) (format : ℤ) (columns : List ℤ) → is_known (tags_of part) 72 ≡ true → goes_on part (CopyOutResponse format columns) ≡ Some CopyData
begins_copy_at CopyFirst format columns k = refl
begins_copy_at (Feeding true) format columns k = absurd cc
begins_copy_at (Feeding false) format columns k = absurd cc
begins_copy_at _ format columns k = absurd cc

pub copies_at : (part : Part) (bytes : List ℕ) → is_known (tags_of part) 100 ≡ true → goes_on part (BackendCopyData bytes) ≡ Some CopyData
copies_at CopyData bytes k = refl
copies_at (Feeding true) bytes k = absurd cc
copies_at (Feeding false) bytes k = absurd cc
copies_at _ bytes k = absurd cc

pub ends_copy_at : (part : Part) → is_known (tags_of part) 99 ≡ true → goes_on part BackendCopyDone ≡ Some CopyEnd
ends_copy_at CopyData k = refl
ends_copy_at (Feeding true) k = absurd cc
ends_copy_at (Feeding false) k = absurd cc
ends_copy_at _ k = absurd cc

-- another reply than the one that is awaited
strays_by : (part : Part) (m : BackendMessage) → is_known (stray_tags part) (backend_frame m).tag ≡ true → may_stray part m ≡ true
strays_by First (CopyInResponse format columns) k = refl
strays_by First (CopyOutResponse format columns) k = refl
strays_by First _ k = absurd cc
strays_by Further (CopyInResponse format columns) k = refl
strays_by Further (CopyOutResponse format columns) k = refl
strays_by Further _ k = absurd cc
strays_by (Running width) (CopyInResponse format columns) k = refl
strays_by (Running width) (CopyOutResponse format columns) k = refl
strays_by (Running width) _ k = absurd cc
strays_by CopyFirst (RowDescription fields) k = refl
strays_by CopyFirst (CommandComplete tag) k = refl
strays_by CopyFirst EmptyQueryResponse k = refl
strays_by CopyFirst (CopyInResponse format columns) k = refl
strays_by CopyFirst _ k = absurd cc
strays_by Copied (RowDescription fields) k = refl
strays_by Copied (CommandComplete tag) k = refl
strays_by Copied EmptyQueryResponse k = refl
strays_by Copied (CopyInResponse format columns) k = refl
strays_by Copied (CopyOutResponse format columns) k = refl
strays_by Copied _ k = absurd cc
strays_by (Opening ended) (RowDescription fields) k = refl
strays_by (Opening ended) (CommandComplete tag) k = refl
strays_by (Opening ended) EmptyQueryResponse k = refl
strays_by (Opening ended) (CopyOutResponse format columns) k = refl
strays_by (Opening ended) _ k = absurd cc
strays_by _ m k = absurd cc

pub strays_at : (part : Part) (tag : ℕ) (body : List ℕ) (m : BackendMessage) → Says tag body m → is_known (stray_tags part) tag ≡ true → may_stray part m ≡ true
strays_at part tag body m s k = strays_by part m (ap (λ (f : Frame). is_known (stray_tags part) f.tag) s.1 ∙ k)

-- ---- what may not come

-- a message with a tag that neither is awaited nor may come
untold : (part : Part) (m : BackendMessage) → is_known (tags_of part) (backend_frame m).tag ≡ false → is_known (stray_tags part) (backend_frame m).tag ≡ false → MayNotCome part m
untold First (RowDescription fields) k s = absurd cc
untold First (CommandComplete tag) k s = absurd cc
untold First EmptyQueryResponse k s = absurd cc
untold First (ErrorResponse details) k s = absurd cc
untold First (CopyInResponse format columns) k s = absurd cc
untold First (CopyOutResponse format columns) k s = absurd cc
untold First (ReadyForQuery status) k s = refl
untold First _ k s = (refl, refl)
untold Further (RowDescription fields) k s = absurd cc
untold Further (CommandComplete tag) k s = absurd cc
untold Further EmptyQueryResponse k s = absurd cc
untold Further (ErrorResponse details) k s = absurd cc
untold Further (CopyInResponse format columns) k s = absurd cc
untold Further (CopyOutResponse format columns) k s = absurd cc
untold Further (ReadyForQuery status) k s = absurd cc
untold Further _ k s = (refl, refl)
untold (Rows columns) (DataRow values) k s = absurd cc
untold (Rows columns) (CommandComplete tag) k s = absurd cc
untold (Rows columns) (ErrorResponse details) k s = absurd cc
untold (Rows columns) (ReadyForQuery status) k s = refl
untold (Rows columns) _ k s = (refl, refl)
untold Synced (ErrorResponse details) k s = absurd cc
untold Synced (ReadyForQuery status) k s = absurd cc
untold Synced _ k s = (refl, refl)
untold Parsing ParseComplete k s = absurd cc
untold Parsing (ErrorResponse details) k s = absurd cc
untold Parsing (ReadyForQuery status) k s = refl
untold Parsing _ k s = (refl, refl)
untold Reparsing ParseComplete k s = absurd cc
untold Reparsing (ErrorResponse details) k s = absurd cc
untold Reparsing (ReadyForQuery status) k s = refl
untold Reparsing _ k s = (refl, refl)
untold Typing (ParameterDescription types) k s = absurd cc
untold Typing (ErrorResponse details) k s = absurd cc
untold Typing (ReadyForQuery status) k s = refl
untold Typing _ k s = (refl, refl)
untold Describing (RowDescription fields) k s = absurd cc
untold Describing NoData k s = absurd cc
untold Describing (ErrorResponse details) k s = absurd cc
untold Describing (ReadyForQuery status) k s = refl
untold Describing _ k s = (refl, refl)
untold (Described columns) (ErrorResponse details) k s = absurd cc
untold (Described columns) (ReadyForQuery status) k s = absurd cc
untold (Described columns) _ k s = (refl, refl)
untold (Binding width) BindComplete k s = absurd cc
untold (Binding width) (ErrorResponse details) k s = absurd cc
untold (Binding width) (ReadyForQuery status) k s = refl
untold (Binding width) _ k s = (refl, refl)
untold (Running width) (DataRow values) k s = absurd cc
untold (Running width) (CommandComplete tag) k s = absurd cc
untold (Running width) EmptyQueryResponse k s = absurd cc
untold (Running width) (ErrorResponse details) k s = absurd cc
untold (Running width) (CopyInResponse format columns) k s = absurd cc
untold (Running width) (CopyOutResponse format columns) k s = absurd cc
untold (Running width) (ReadyForQuery status) k s = refl
untold (Running width) _ k s = (refl, refl)
untold (RunningOn columns) (DataRow values) k s = absurd cc
untold (RunningOn columns) (CommandComplete tag) k s = absurd cc
untold (RunningOn columns) EmptyQueryResponse k s = absurd cc
untold (RunningOn columns) (ErrorResponse details) k s = absurd cc
untold (RunningOn columns) (ReadyForQuery status) k s = refl
untold (RunningOn columns) _ k s = (refl, refl)
untold (Closing more) CloseComplete k s = absurd cc
untold (Closing more) (ErrorResponse details) k s = absurd cc
untold (Closing more) (ReadyForQuery status) k s = refl
untold (Closing more) _ k s = (refl, refl)
untold CopyFirst (RowDescription fields) k s = absurd cc
untold CopyFirst (CommandComplete tag) k s = absurd cc
untold CopyFirst EmptyQueryResponse k s = absurd cc
untold CopyFirst (ErrorResponse details) k s = absurd cc
untold CopyFirst (CopyInResponse format columns) k s = absurd cc
untold CopyFirst (CopyOutResponse format columns) k s = absurd cc
untold CopyFirst (ReadyForQuery status) k s = refl
untold CopyFirst _ k s = (refl, refl)
untold CopyData (BackendCopyData bytes) k s = absurd cc
untold CopyData BackendCopyDone k s = absurd cc
untold CopyData (ErrorResponse details) k s = absurd cc
untold CopyData (ReadyForQuery status) k s = refl
untold CopyData _ k s = (refl, refl)
untold CopyEnd (CommandComplete tag) k s = absurd cc
untold CopyEnd (ErrorResponse details) k s = absurd cc
untold CopyEnd (ReadyForQuery status) k s = refl
untold CopyEnd _ k s = (refl, refl)
untold Copied (RowDescription fields) k s = absurd cc
untold Copied (CommandComplete tag) k s = absurd cc
untold Copied EmptyQueryResponse k s = absurd cc
untold Copied (ErrorResponse details) k s = absurd cc
untold Copied (CopyInResponse format columns) k s = absurd cc
untold Copied (CopyOutResponse format columns) k s = absurd cc
untold Copied (ReadyForQuery status) k s = absurd cc
untold Copied _ k s = (refl, refl)
untold (Opening ended) (RowDescription fields) k s = absurd cc
untold (Opening ended) (CommandComplete tag) k s = absurd cc
untold (Opening ended) EmptyQueryResponse k s = absurd cc
untold (Opening ended) (ErrorResponse details) k s = absurd cc
untold (Opening ended) (CopyInResponse format columns) k s = absurd cc
untold (Opening ended) (CopyOutResponse format columns) k s = absurd cc
untold (Opening ended) (ReadyForQuery status) k s = refl
untold (Opening ended) _ k s = (refl, refl)
untold (Feeding true) (CommandComplete tag) k s = absurd cc
untold (Feeding true) (ErrorResponse details) k s = absurd cc
untold (Feeding true) (ReadyForQuery status) k s = refl
untold (Feeding true) _ k s = (refl, refl)
untold (Feeding false) (ErrorResponse details) k s = absurd cc
untold (Feeding false) (ReadyForQuery status) k s = refl
untold (Feeding false) _ k s = (refl, refl)

out_of_place : (part : Part) (m : BackendMessage) (tag : ℕ) (body : List ℕ) → Says tag body m → is_known (tags_of part) tag ≡ false → is_known (stray_tags part) tag ≡ false → MayNotCome part m
out_of_place part m tag body s k x = untold part m (ap (λ (f : Frame). is_known (tags_of part) f.tag) s.1 ∙ k) (ap (λ (f : Frame). is_known (stray_tags part) f.tag) s.1 ∙ x)

-- a refusal for whatever reason is one for this
because : (part : Part) (tag : ℕ) (body : List ℕ) (e : Error) → ((m : BackendMessage) → Says tag body m → MayNotCome part m) → IsFault IsAny tag body e → Judges part tag body (Err e)
because part tag body errors.OutOfMemory f h = tt
because part tag body (errors.Protocol (protocol.Server (faults.Malformed t))) f h = h
because part tag body (errors.Protocol (protocol.Server (faults.Unlawful t))) f h = (h.0, h.1, h.2, f h.1 h.2)
because part tag body _ f h = absurd h

pub misplaced : (part : Part) (tag : ℕ) (body : List ℕ) (e : Error) → is_known (tags_of part) tag ≡ false → is_known (stray_tags part) tag ≡ false → IsFault IsAny tag body e → Judges part tag body (Err e)
misplaced part tag body e k x h = because part tag body e (λ m s. out_of_place part m tag body s k x) h

-- ---- rows

pub row_goes : (part next : Part) (values : Values) → after_row part (length values) ≡ Some next → goes_on part (DataRow values) ≡ Some next
row_goes (Rows columns) next values e = e
row_goes (Running width) next values e = e
row_goes (RunningOn columns) next values e = e
row_goes First next values e = absurd cc
row_goes Further next values e = absurd cc
row_goes Synced next values e = absurd cc
row_goes Parsing next values e = absurd cc
row_goes Typing next values e = absurd cc
row_goes Describing next values e = absurd cc
row_goes (Described columns) next values e = absurd cc
row_goes Reparsing next values e = absurd cc
row_goes (Binding width) next values e = absurd cc
row_goes (Closing more) next values e = absurd cc
row_goes CopyFirst next values e = absurd cc
row_goes CopyData next values e = absurd cc
row_goes CopyEnd next values e = absurd cc
row_goes Copied next values e = absurd cc
row_goes (Opening ended) next values e = absurd cc
row_goes (Feeding true) next values e = absurd cc
row_goes (Feeding false) next values e = absurd cc

unfitting : (part : Part) (values : Values) → after_row part (length values) ≡ None → MayNotCome part (DataRow values)
unfitting (Rows columns) values e = (e, refl)
unfitting (Running width) values e = (e, refl)
unfitting (RunningOn columns) values e = (e, refl)
unfitting First values e = (refl, refl)
unfitting Further values e = (refl, refl)
unfitting Synced values e = (refl, refl)
unfitting Parsing values e = (refl, refl)
unfitting Typing values e = (refl, refl)
unfitting Describing values e = (refl, refl)
unfitting (Described columns) values e = (refl, refl)
unfitting Reparsing values e = (refl, refl)
unfitting (Binding width) values e = (refl, refl)
unfitting (Closing more) values e = (refl, refl)
unfitting CopyFirst values e = (refl, refl)
unfitting CopyData values e = (refl, refl)
unfitting CopyEnd values e = (refl, refl)
unfitting Copied values e = (refl, refl)
unfitting (Opening ended) values e = (refl, refl)
unfitting (Feeding true) values e = (refl, refl)
unfitting (Feeding false) values e = (refl, refl)

pub other_width : (part : Part) (values : Values) (body : List ℕ) (e : Error) → Says 68 body (DataRow values) → after_row part (length values) ≡ None → IsFault IsAny 68 body e → Judges part 68 body (Err e)
other_width part values body e s n h =
    because part 68 body e (λ m t. subst (MayNotCome part) (backend_frame_unique (DataRow values) m s.0 t.0 (s.1 ∙ sym t.1)) (unfitting part values n)) h

row_misfits : (part : Part) (body : List ℕ) → ((values : Values) → Says 68 body (DataRow values) → after_row part (length values) ≡ None) → (m : BackendMessage) → Says 68 body m → MayNotCome part m
row_misfits part body f (DataRow values) s = unfitting part values (f values s)
row_misfits part body f _ s = absurd (omega (arith, ap (λ (g : Frame). g.tag) s.1))

-- a body that claims another width is no row that may come
pub claims_other_width : (part : Part) (body : List ℕ) (e : Error) → ((values : Values) → Says 68 body (DataRow values) → after_row part (length values) ≡ None) → IsFault IsAny 68 body e → Judges part 68 body (Err e)
claims_other_width part body e f h = because part 68 body e (row_misfits part body f) h

-- ---- a message of which nothing is kept

pub plainly : (part next : Part) (tag : ℕ) (body : List ℕ) (m : BackendMessage) (verdict : Verdict) → verdict ≡ goes_plainly next → Says tag body m → goes_on part m ≡ Some next → Nothing ≡ news_of m → Judges part tag body (Ok verdict)
plainly part next tag body m verdict e s g i = rw e (m, s, (g, i))
