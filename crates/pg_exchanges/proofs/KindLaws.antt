-- What is accepted in the response to each kind of group that a driver sends begins one.
use Rattle.std.proofs.Common.{◌≡◌, ℕ, Bool, true, false, cond, not, bytes_eq, nat_eq, List, [], ◌∷◌, length, map, Option, Some, None, refl, sym, ap, ◌∙◌, subst, arith, ◌⊎◌, inl, inr, pos}
use Rattle.std.specs.List.{AllByRecursion}
use Rattle.std.proofs.lemmas.Bool.{eqb-true}
use Rattle.std.proofs.lemmas.Option.{same_Some}
use Rattle.std.proofs.lemmas.List.{length-map, length-replicate}
use Rattle.std.proofs.Math.ListN.{replicate}
use Rattle.std.proofs.lemmas.Slice.Eq.{bytes_eq-Decides}
use Rattle.pg_wire.specs.Frontend.{Parse, DescribeStatement, Bind, Execute, CloseStatement, ClosePortal}
use Rattle.pg_wire.specs.Backend.{FieldDescription, Values, BackendMessage, HasBackendFrame, ReadyForQuery, RowDescription, ParameterDescription, DataRow, CommandComplete, ErrorResponse, EmptyQueryResponse, ParseComplete, BindComplete, CloseComplete, NoData, backend_frame}
use Rattle.pg_wire.specs.Server.{Server, Statement, statement_at, fresh_server, with_statement, without_statement, IsFree}
use Rattle.pg_wire.specs.Groups.{IsInner, IsBetween}
use Rattle.pg_exchanges.specs.Expecting.{Step, Parses, Types, Columns, Binds, Runs, RunsOn, Closes, Expected, InSteps, width_behind, rows_on, behind, Widths, width_at, forget, AreDistinct, steps_of, expected, HasWidths, BeginsKnowing}
use Rattle.pg_exchanges.specs.Answering.{described, Tells, MayStandBefore, DescribeWhole, HasStatement, IsAble, describing, running, parsed_running, closing}
use Rattle.pg_wire.proofs.StepLaws.{found_first}
use Rattle.pg_wire.proofs.RunLaws.{with_over}
use Rattle.pg_exchanges.proofs.ExpectingLaws.{behind_some, starts_with_steps, with_kept, with_skip}
use Rattle.pg_exchanges.proofs.AcceptedLaws.{nothing_more, after_error, some_is, accepted_begins_response}

-- ---- what the messages tell

abbrev Told : List FieldDescription → List BackendMessage → Type 0
Told fields own = AllByRecursion (Tells fields) own × DescribeWhole own

-- a message that tells nothing of columns
abbrev IsSilent : BackendMessage → Type 0
IsSilent (RowDescription told) = ⊥
IsSilent NoData = ⊥
IsSilent (DataRow values) = ⊥
IsSilent (ParameterDescription types) = ⊥
IsSilent _ = Unit {0}

silent_tells : (fields : List FieldDescription) (m : BackendMessage) → IsSilent m → Tells fields m
silent_tells fields (RowDescription told) h = absurd h
silent_tells fields NoData h = absurd h
silent_tells fields (DataRow values) h = absurd h
silent_tells fields _ h = tt

silent_before : (m : BackendMessage) (ms : List BackendMessage) → IsSilent m → MayStandBefore m ms
silent_before (ParameterDescription types) ms h = absurd h
silent_before _ ms h = tt

told_more : (fields : List FieldDescription) (m : BackendMessage) (ms : List BackendMessage) → IsSilent m → Told fields ms → Told fields (m ∷ ms)
told_more fields m ms h t = ((silent_tells fields m h, t.0), (silent_before m ms h, t.1))

told_silent : (fields : List FieldDescription) (ms : List BackendMessage) → AllByRecursion IsSilent ms → Told fields ms
told_silent fields [] h = (tt, tt)
told_silent fields (m ∷ ms) h = told_more fields m ms h.0 (told_silent fields ms h.1)

-- steps that await nothing of columns
abbrev AreQuiet : List Step → Type 0
AreQuiet [] = Unit {0}
AreQuiet (Parses ∷ steps) = AreQuiet steps
AreQuiet (Binds ∷ steps) = AreQuiet steps
AreQuiet (Closes ∷ steps) = AreQuiet steps
AreQuiet (Types ∷ steps) = ⊥
AreQuiet (Columns ∷ steps) = ⊥
AreQuiet (Runs width ∷ steps) = ⊥
AreQuiet (RunsOn width ∷ steps) = ⊥

sync_silent : (own : List BackendMessage) (t : Expected) → behind (InSteps []) own ≡ Some t → AllByRecursion IsSilent own
sync_silent [] t e = tt
sync_silent (ReadyForQuery status ∷ rest) t e = rw (nothing_more rest t e) (tt, tt)
sync_silent (ErrorResponse details ∷ rest) t e = by (after_error rest t e)
  where
    by : (rest ≡ []) ⊎ ((status : _) × (rest ≡ ReadyForQuery status ∷ [])) → AllByRecursion IsSilent (ErrorResponse details ∷ rest)
    by (inl n) = rw n (tt, tt)
    by (inr s) = rw s.1 (tt, (tt, tt))
sync_silent (_ ∷ rest) t e = absurd cc

quiet_silent : (own : List BackendMessage) (steps : List Step) (t : Expected) → AreQuiet steps → behind (InSteps steps) own ≡ Some t → AllByRecursion IsSilent own
quiet_silent own [] t q e = sync_silent own t e
quiet_silent [] (Parses ∷ steps) t q e = tt
quiet_silent [] (Binds ∷ steps) t q e = tt
quiet_silent [] (Closes ∷ steps) t q e = tt
quiet_silent (ParseComplete ∷ own) (Parses ∷ steps) t q e = (tt, quiet_silent own steps t q e)
quiet_silent (BindComplete ∷ own) (Binds ∷ steps) t q e = (tt, quiet_silent own steps t q e)
quiet_silent (CloseComplete ∷ own) (Closes ∷ steps) t q e = (tt, quiet_silent own steps t q e)
quiet_silent (ErrorResponse details ∷ own) (Parses ∷ steps) t q e = (tt, sync_silent own t e)
quiet_silent (ErrorResponse details ∷ own) (Binds ∷ steps) t q e = (tt, sync_silent own t e)
quiet_silent (ErrorResponse details ∷ own) (Closes ∷ steps) t q e = (tt, sync_silent own t e)
quiet_silent (_ ∷ own) (Parses ∷ steps) t q e = absurd cc
quiet_silent (_ ∷ own) (Binds ∷ steps) t q e = absurd cc
quiet_silent (_ ∷ own) (Closes ∷ steps) t q e = absurd cc
quiet_silent own (Types ∷ steps) t q e = absurd q
quiet_silent own (Columns ∷ steps) t q e = absurd q
quiet_silent own (Runs width ∷ steps) t q e = absurd q
quiet_silent own (RunsOn width ∷ steps) t q e = absurd q

told_quiet : (fields : List FieldDescription) (own : List BackendMessage) (steps : List Step) (t : Expected) → AreQuiet steps → behind (InSteps steps) own ≡ Some t → Told fields own
told_quiet fields own steps t q e = told_silent fields own (quiet_silent own steps t q e)

-- ---- rows

-- a row that fits the width that is awaited
width_kept : (width n v : ℕ) → width_behind (Some width) n ≡ Some v → (n ≡ width) × (v ≡ width)
width_kept width n v e = by (nat_eq n width) refl e
  where
    by : (b : Bool) → nat_eq n width ≡ b → cond b (Some width) None ≡ Some v → (n ≡ width) × (v ≡ width)
    by true h k = (eqb-true n width h, sym (same_Some width v k))
    by false h k = absurd cc

width_found : (steps : List Step) (o : Option ℕ) (f : Expected) → rows_on steps o ≡ Some f → (v : ℕ) × (o ≡ Some v) × (f ≡ InSteps (RunsOn v ∷ steps))
width_found steps None f e = absurd cc
width_found steps (Some v) f e = (v, refl, some_is _ _ e)

rows_told : (fields : List FieldDescription) (width : ℕ) (own : List BackendMessage) (steps : List Step) (t : Expected) → AreQuiet steps → width ≡ length fields → behind (InSteps (RunsOn width ∷ steps)) own ≡ Some t → Told fields own
rows_told fields width [] steps t q w e = (tt, tt)
rows_told fields width (DataRow row ∷ own) steps t q w e =
    let s = behind_some (rows_on steps (width_behind (Some width) (length row))) own t e in
    let v = width_found steps _ s.0 s.1 in
    let k = width_kept width (length row) v.0 v.1 in
    let further = rows_told fields width own steps t q w (rw (v.2, k.1) at s.2) in
    ((k.0 ∙ w, further.0), (tt, further.1))
rows_told fields width (CommandComplete tag ∷ own) steps t q w e = told_more fields (CommandComplete tag) own tt (told_quiet fields own steps t q e)
rows_told fields width (EmptyQueryResponse ∷ own) steps t q w e = told_more fields EmptyQueryResponse own tt (told_quiet fields own steps t q e)
rows_told fields width (ErrorResponse details ∷ own) steps t q w e = told_more fields (ErrorResponse details) own tt (told_quiet fields own [] t tt e)
rows_told fields width (_ ∷ own) steps t q w e = absurd cc

-- rows of a width that is known
known_told : (fields : List FieldDescription) (width : ℕ) (own : List BackendMessage) (steps : List Step) (t : Expected) → AreQuiet steps → width ≡ length fields → behind (InSteps (Runs (Some width) ∷ steps)) own ≡ Some t → Told fields own
known_told fields width [] steps t q w e = (tt, tt)
known_told fields width (DataRow row ∷ own) steps t q w e = rows_told fields width (DataRow row ∷ own) steps t q w e
known_told fields width (CommandComplete tag ∷ own) steps t q w e = told_more fields (CommandComplete tag) own tt (told_quiet fields own steps t q e)
known_told fields width (EmptyQueryResponse ∷ own) steps t q w e = told_more fields EmptyQueryResponse own tt (told_quiet fields own steps t q e)
known_told fields width (ErrorResponse details ∷ own) steps t q w e = told_more fields (ErrorResponse details) own tt (told_quiet fields own [] t tt e)
known_told fields width (_ ∷ own) steps t q w e = absurd cc

-- a column for each value of the first row
a_column : FieldDescription
a_column = record { name = []; table = 0; attribute = pos 0; type_id = 0; size = pos 0; modifier = pos 0; format = pos 0 }

abbrev row_fields : Values → List FieldDescription
row_fields row = map (λ v. a_column) row

abbrev first_row : List BackendMessage → List FieldDescription
first_row [] = []
first_row (DataRow row ∷ own) = row_fields row
first_row (_ ∷ own) = first_row own

unknown_told : (own : List BackendMessage) (steps : List Step) (t : Expected) → AreQuiet steps → behind (InSteps (Runs None ∷ steps)) own ≡ Some t → Told (first_row own) own
unknown_told [] steps t q e = (tt, tt)
unknown_told (DataRow row ∷ own) steps t q e =
    let wide : length row ≡ length (row_fields row) = sym (length-map row (λ v. a_column)) in
    let further = rows_told (row_fields row) (length row) own steps t q wide e in
    ((wide, further.0), (tt, further.1))
unknown_told (CommandComplete tag ∷ own) steps t q e = told_more (first_row own) (CommandComplete tag) own tt (told_quiet (first_row own) own steps t q e)
unknown_told (EmptyQueryResponse ∷ own) steps t q e = told_more (first_row own) EmptyQueryResponse own tt (told_quiet (first_row own) own steps t q e)
unknown_told (ErrorResponse details ∷ own) steps t q e = told_more (first_row own) (ErrorResponse details) own tt (told_quiet (first_row own) own [] t tt e)
unknown_told (_ ∷ own) steps t q e = absurd cc

-- the same behind a Bind, and behind a Parse and a Bind
bound_known : (fields : List FieldDescription) (width : ℕ) (own : List BackendMessage) (steps : List Step) (t : Expected) → AreQuiet steps → width ≡ length fields → behind (InSteps (Binds ∷ Runs (Some width) ∷ steps)) own ≡ Some t → Told fields own
bound_known fields width [] steps t q w e = (tt, tt)
bound_known fields width (BindComplete ∷ own) steps t q w e = told_more fields BindComplete own tt (known_told fields width own steps t q w e)
bound_known fields width (ErrorResponse details ∷ own) steps t q w e = told_more fields (ErrorResponse details) own tt (told_quiet fields own [] t tt e)
bound_known fields width (_ ∷ own) steps t q w e = absurd cc

bound_unknown : (own : List BackendMessage) (steps : List Step) (t : Expected) → AreQuiet steps → behind (InSteps (Binds ∷ Runs None ∷ steps)) own ≡ Some t → Told (first_row own) own
bound_unknown [] steps t q e = (tt, tt)
bound_unknown (BindComplete ∷ own) steps t q e = told_more (first_row own) BindComplete own tt (unknown_told own steps t q e)
bound_unknown (ErrorResponse details ∷ own) steps t q e = told_more (first_row own) (ErrorResponse details) own tt (told_quiet (first_row own) own [] t tt e)
bound_unknown (_ ∷ own) steps t q e = absurd cc

parsed_unknown : (own : List BackendMessage) (steps : List Step) (t : Expected) → AreQuiet steps → behind (InSteps (Parses ∷ Binds ∷ Runs None ∷ steps)) own ≡ Some t → Told (first_row own) own
parsed_unknown [] steps t q e = (tt, tt)
parsed_unknown (ParseComplete ∷ own) steps t q e = told_more (first_row own) ParseComplete own tt (bound_unknown own steps t q e)
parsed_unknown (ErrorResponse details ∷ own) steps t q e = told_more (first_row own) (ErrorResponse details) own tt (told_quiet (first_row own) own [] t tt e)
parsed_unknown (_ ∷ own) steps t q e = absurd cc

-- ---- a description

no_columns : HasBackendFrame (RowDescription [])
no_columns = (omega arith, tt)

described_has_frame : (own : List BackendMessage) → AllByRecursion HasBackendFrame own → HasBackendFrame (RowDescription (described own))
described_has_frame [] h = no_columns
described_has_frame (RowDescription told ∷ own) h = h.0
described_has_frame (NoData ∷ own) h = no_columns
described_has_frame (_ ∷ own) h = described_has_frame own h.1

abbrev Tell : List FieldDescription → List BackendMessage → Type 0
Tell fields own = AllByRecursion (Tells fields) own

columns_told : (own : List BackendMessage) (t : Expected) → behind (InSteps (Columns ∷ [])) own ≡ Some t → Tell (described own) own
columns_told [] t e = tt
columns_told (RowDescription told ∷ own) t e = (refl, (told_quiet told own [] t tt e).0)
columns_told (NoData ∷ own) t e = (refl, (told_quiet [] own [] t tt e).0)
columns_told (ErrorResponse details ∷ own) t e = (tt, (told_quiet (described own) own [] t tt e).0)
columns_told (_ ∷ own) t e = absurd cc

types_told : (own : List BackendMessage) (t : Expected) → behind (InSteps (Types ∷ Columns ∷ [])) own ≡ Some t → Tell (described own) own
types_told [] t e = tt
types_told (ParameterDescription types ∷ own) t e = (tt, columns_told own t e)
types_told (ErrorResponse details ∷ own) t e = (tt, (told_quiet (described own) own [] t tt e).0)
types_told (_ ∷ own) t e = absurd cc

describing_told : (own : List BackendMessage) (t : Expected) → behind (InSteps (Parses ∷ Types ∷ Columns ∷ [])) own ≡ Some t → Tell (described own) own
describing_told [] t e = tt
describing_told (ParseComplete ∷ own) t e = (tt, types_told own t e)
describing_told (ErrorResponse details ∷ own) t e = (tt, (told_quiet (described own) own [] t tt e).0)
describing_told (_ ∷ own) t e = absurd cc

-- ---- servers that are able

pub stands_at : (m : Server) (name : List ℕ) (s : Statement) → statement_at (with_statement m name s) name ≡ Some s
stands_at m [] s = refl
stands_at m (b ∷ bs) s = found_first (b ∷ bs) s m.named

pub able_to_describe : (fields : List FieldDescription) (m : Server) (name sql types : List ℕ) → IsFree m name → HasBackendFrame (RowDescription fields) → IsAble fields m (Parse name sql types ∷ DescribeStatement name ∷ [])
able_to_describe fields m name sql types free has = (free, (((record { sql = sql; fields = fields }, stands_at m name _, refl), has), tt))

pub able_to_run : (fields : List FieldDescription) (m : Server) (name : List ℕ) (values : List (Option (List ℕ))) (limit : ℕ) → HasStatement fields m name → IsAble fields m (Bind name values ∷ Execute [] limit ∷ ClosePortal [] ∷ [])
able_to_run fields m name values limit s = (s, (refl, (tt, tt)))

pub able_to_parse_and_run : (fields : List FieldDescription) (m : Server) (name sql types : List ℕ) (values : List (Option (List ℕ))) (limit : ℕ) → IsFree m name → IsAble fields m (Parse name sql types ∷ Bind name values ∷ Execute [] limit ∷ ClosePortal [] ∷ [])
able_to_parse_and_run fields m name sql types values limit free =
    let s : Statement = record { sql = sql; fields = fields } in
    (free, able_to_run fields (with_statement m name s) name values limit (s, stands_at m name s, refl))

pub able_to_close : (fields : List FieldDescription) (m : Server) (names : List (List ℕ)) → IsAble fields m (map CloseStatement names)
able_to_close fields m [] = tt
able_to_close fields m (name ∷ names) = (tt, able_to_close fields (without_statement m name) names)

-- ---- widths

width_forgotten : (name : List ℕ) (widths : Widths) → width_at (forget name widths) name ≡ None
width_forgotten name [] = refl
width_forgotten name (w ∷ ws) = by (bytes_eq w.0 name) refl (width_forgotten name ws)
  where
    by : (b : Bool) → bytes_eq w.0 name ≡ b → width_at (forget name ws) name ≡ None → width_at (cond (not b) (w ∷ forget name ws) (forget name ws)) name ≡ None
    by true h k = k
    by false h k = rw h k

-- a statement whose width is known stands there with it
known_statement : (widths : Widths) (m : Server) (name : List ℕ) (width : ℕ) → HasWidths m widths → width_at widths name ≡ Some width → (s : Statement) × (statement_at m name ≡ Some s) × (width ≡ length s.fields)
known_statement [] m name width h e = absurd cc
known_statement (w ∷ ws) m name width h e = by (bytes_eq w.0 name) refl e (λ k. known_statement ws m name width h.1 k)
  where
    by : (b : Bool) → bytes_eq w.0 name ≡ b → cond b (Some w.1) (width_at ws name) ≡ Some width → (width_at ws name ≡ Some width → (s : Statement) × (statement_at m name ≡ Some s) × (width ≡ length s.fields)) → (s : Statement) × (statement_at m name ≡ Some s) × (width ≡ length s.fields)
    by true q k f = (h.0.0, ap (statement_at m) (sym ((bytes_eq-Decides w.0 name).0 q)) ∙ h.0.1, sym (same_Some w.1 width k) ∙ sym h.0.2)
    by false q k f = f k

-- a statement of a name of which no width is known changes none of the widths
widths_beside : (widths : Widths) (m : Server) (name : List ℕ) (made : Statement) → HasWidths m widths → width_at widths name ≡ None → HasWidths (with_statement m name made) widths
widths_beside [] m name made h e = tt
widths_beside (w ∷ ws) m name made h e = by (bytes_eq w.0 name) refl e (λ k. widths_beside ws m name made h.1 k)
  where
    by : (b : Bool) → bytes_eq w.0 name ≡ b → cond b (Some w.1) (width_at ws name) ≡ None → (width_at ws name ≡ None → HasWidths (with_statement m name made) ws) → HasWidths (with_statement m name made) (w ∷ ws)
    by true q k f = absurd cc
    by false q k f = ((h.0.0, with_kept name made m w.0 h.0.0 q h.0.1, h.0.2), f k)

-- the server behind has the width besides
width_added : (widths : Widths) (m : Server) (w : List ℕ × ℕ) → HasWidths m widths → width_at widths w.0 ≡ None → HasWidths (with_statement m w.0 (record { sql = []; fields = replicate w.1 a_column })) (w ∷ widths)
width_added widths m w h e =
    let made : Statement = record { sql = []; fields = replicate w.1 a_column } in
    ((made, stands_at m w.0 made, length-replicate w.1 a_column), widths_beside widths m w.0 made h e)

pub widths_had : (widths : Widths) → AreDistinct widths → (server : Server) × IsBetween server × HasWidths server widths
widths_had [] d = (fresh_server, (refl, refl), tt)
widths_had (w ∷ ws) d =
    let s = widths_had ws d.1 in
    let made : Statement = record { sql = []; fields = replicate w.1 a_column } in
    (with_statement s.0 w.0 made, (with_over s.0 w.0 made ∙ s.1.0, with_skip s.0 w.0 made ∙ s.1.1), width_added ws s.0 w s.2 d.0)

-- ---- the kinds of groups

pub describing_begins : (widths : Widths) (m : Server) (name sql types : List ℕ) (own : List BackendMessage) (t : Expected) → IsBetween m → HasWidths m widths → IsFree m name → behind (expected widths (describing name sql types)) own ≡ Some t
    → AllByRecursion HasBackendFrame own → DescribeWhole own → BeginsKnowing widths (describing name sql types) (map backend_frame own)
describing_begins widths m name sql types own t between known free e h d =
    accepted_begins_response (described own) (Parse name sql types ∷ DescribeStatement name ∷ []) widths m own t between known (able_to_describe (described own) m name sql types free (described_has_frame own h)) e h (describing_told own t e) d

run_begins : (fields : List FieldDescription) (widths : Widths) (m : Server) (name : List ℕ) (values : List (Option (List ℕ))) (limit : ℕ) (own : List BackendMessage) (t : Expected) → IsBetween m → HasWidths m widths → HasStatement fields m name → behind (expected widths (running name values limit)) own ≡ Some t
    → AllByRecursion HasBackendFrame own → Told fields own → BeginsKnowing widths (running name values limit) (map backend_frame own)
run_begins fields widths m name values limit own t between known s e h told =
    accepted_begins_response fields (Bind name values ∷ Execute [] limit ∷ ClosePortal [] ∷ []) widths m own t between known (able_to_run fields m name values limit s) e h told.0 told.1

pub running_begins : (widths : Widths) (m : Server) (name : List ℕ) (values : List (Option (List ℕ))) (limit : ℕ) (own : List BackendMessage) (t : Expected) → IsBetween m → HasWidths m widths → behind (expected widths (running name values limit)) own ≡ Some t
    → AllByRecursion HasBackendFrame own → BeginsKnowing widths (running name values limit) (map backend_frame own)
running_begins widths m name values limit own t between known e h = by (width_at widths name) refl e
  where
    by : (o : Option ℕ) → width_at widths name ≡ o → behind (InSteps (Binds ∷ Runs o ∷ Closes ∷ [])) own ≡ Some t → BeginsKnowing widths (running name values limit) (map backend_frame own)
    by (Some width) w k =
        let s = known_statement widths m name width known w in
        run_begins s.0.fields widths m name values limit own t between known (s.0, s.1, refl) e h (bound_known s.0.fields width own (Closes ∷ []) t tt s.2 k)
    by None w k =
        let made : Statement = record { sql = []; fields = first_row own } in
        run_begins (first_row own) widths (with_statement m name made) name values limit own t (with_over m name made ∙ between.0, with_skip m name made ∙ between.1) (widths_beside widths m name made known w) (made, stands_at m name made, refl) e h (bound_unknown own (Closes ∷ []) t tt k)

pub parsed_running_begins : (widths : Widths) (m : Server) (name sql types : List ℕ) (values : List (Option (List ℕ))) (limit : ℕ) (own : List BackendMessage) (t : Expected) → IsBetween m → HasWidths m widths → IsFree m name
    → behind (expected widths (parsed_running name sql types values limit)) own ≡ Some t → AllByRecursion HasBackendFrame own → BeginsKnowing widths (parsed_running name sql types values limit) (map backend_frame own)
parsed_running_begins widths m name sql types values limit own t between known free e h =
    let told = parsed_unknown own (Closes ∷ []) t tt (subst (λ (o : Option ℕ). behind (InSteps (Parses ∷ Binds ∷ Runs o ∷ Closes ∷ [])) own ≡ Some t) (width_forgotten name widths) e) in
    accepted_begins_response (first_row own) (Parse name sql types ∷ Bind name values ∷ Execute [] limit ∷ ClosePortal [] ∷ []) widths m own t between known (able_to_parse_and_run (first_row own) m name sql types values limit free) e h told.0 told.1

closes_quiet : (names : List (List ℕ)) (widths : Widths) (portal : Option ℕ) → AreQuiet (steps_of widths portal (closing names))
closes_quiet [] widths portal = tt
closes_quiet (name ∷ names) widths portal = closes_quiet names (forget name widths) portal

pub closes_inner : (names : List (List ℕ)) → AllByRecursion IsInner (map CloseStatement names)
closes_inner [] = tt
closes_inner (name ∷ names) = (tt, closes_inner names)

pub closing_begins : (widths : Widths) (m : Server) (names : List (List ℕ)) (own : List BackendMessage) (t : Expected) → IsBetween m → HasWidths m widths → behind (expected widths (closing names)) own ≡ Some t → AllByRecursion HasBackendFrame own
    → BeginsKnowing widths (closing names) (map backend_frame own)
closing_begins widths m names own t between known e h =
    let steps = ap (λ (x : Expected). behind x own) (sym (starts_with_steps widths (map CloseStatement names) (closes_inner names))) ∙ e in
    let told = told_quiet [] own (steps_of widths None (closing names)) t (closes_quiet names widths None) steps in
    accepted_begins_response [] (map CloseStatement names) widths m own t between known (able_to_close [] m names) e h told.0 told.1
