-- What is accepted in the response to a group begins one, of a server that can answer each of its messages.
use Rattle.pg_wire.specs.declared.fields.ErrorField.{ErrorField}
use Rattle.pg_wire.specs.declared.status.TransactionStatus.TheVariants as statuses
use Rattle.std.proofs.Common.{◌≡◌, ℕ, Bool, true, false, cond, List, [], ◌∷◌, ◌++◌, length, map, Option, Some, None, refl, sym, ap, ◌∙◌, subst, append-nil, append_assoc, arith, flat_map, ◌⊎◌, inl, inr, option_and_then}
use Rattle.std.specs.List.{AllByRecursion}
use Rattle.std.proofs.lemmas.List.{map-append}
use Rattle.pg_wire.specs.Frontend.{FrontendMessage, Query, Parse, DescribeStatement, DescribePortal, Bind, Execute, CloseStatement, ClosePortal, Sync, Terminate, CopyData, CopyDone, CopyFail}
use Rattle.pg_wire.specs.Backend.{FieldDescription, Values, BackendMessage, HasBackendFrame, ReadyForQuery, DataRow, CommandComplete, ErrorResponse, EmptyQueryResponse, RowDescription, NoData, ParameterDescription, ParseComplete, BindComplete, CloseComplete, backend_frame}
use Rattle.pg_wire.specs.Server.{Server, Statement, with_statement, without_statement, portal_at, AreWide, IsPortalResult, StepsDescribe, StepsDescribePortal, StepsBind, StepsExecute, Skips, ServerStep, ServerRun, after_sync, IsPrefixOf}
use Rattle.pg_wire.specs.Groups.{IsInner, IsBetween}
use Rattle.pg_wire.specs.Acceptor.{Awaits, FirstSegment, NothingMore, AfterError, next, accepts}
use Rattle.pg_exchanges.specs.Expecting.{Step, Parses, Types, Columns, Binds, Runs, RunsOn, Closes, Expected, InQuery, InSteps, width_behind, rows_on, in_step, in_query, behind, Widths, widths_after, portal_width, steps_of, expected, HasWidths, BeginsKnowing}
use Rattle.pg_exchanges.specs.Answering.{Tells, DescribeWhole, HasStatement, CanAnswer, answered, IsAble}
use Rattle.pg_wire.proofs.AcceptorLaws.{accepted_can_end}
use Rattle.pg_wire.proofs.CopyLaws.{plain, run_copies}
use Rattle.pg_wire.proofs.Each.{each_join, each_end}
use Rattle.pg_wire.proofs.RunLaws.{with_over, without_over}
use Rattle.pg_exchanges.proofs.ExpectingLaws.{behind_some, starts_with_steps, with_skip, without_skip}

abbrev flat : List (List BackendMessage) → List BackendMessage
flat rss = flat_map (λ rs. rs) rss

-- the server may begin its replies to these messages so
abbrev pub Begins : Server → List FrontendMessage → List BackendMessage → Type 0
Begins m ms own = (rss : List (List BackendMessage)) × (new : Server) × ServerRun m ms rss new × AllByRecursion HasBackendFrame (flat_map (λ rs. rs) rss) × IsPrefixOf own (flat_map (λ rs. rs) rss)

cons : (m next : Server) (message : FrontendMessage) (ms : List FrontendMessage) (rs own : List BackendMessage) → ServerStep m message rs next → AllByRecursion HasBackendFrame rs → Begins next ms own → Begins m (message ∷ ms) (rs ++ own)
cons m next message ms rs own step have b = (rs ∷ b.0, b.1, (next, step, b.2), each_join HasBackendFrame rs (flat b.0) have b.3, (b.4.0, append_assoc rs own b.4.0 ∙ ap (λ (t : List BackendMessage). rs ++ t) b.4.1))

shorter : (m : Server) (ms : List FrontendMessage) (own more : List BackendMessage) → Begins m ms (own ++ more) → Begins m ms own
shorter m ms own more b = (b.0, b.1, b.2, b.3, (more ++ b.4.0, sym (append_assoc own more b.4.0) ∙ b.4.1))

as_step : (over skip : Bool) (A B C : Type 0) → over ≡ false → skip ≡ false → C → cond over A (cond skip B C)
as_step true skip A B C e k h = absurd cc
as_step false true A B C e k h = absurd cc
as_step false false A B C e k h = h

as_skip : (over skip : Bool) (A B C : Type 0) → over ≡ false → skip ≡ true → B → cond over A (cond skip B C)
as_skip true skip A B C e k h = absurd cc
as_skip false true A B C e k h = h
as_skip false false A B C e k h = absurd cc

as_sync : (over skip : Bool) (A B : Type 0) → over ≡ false → B → cond over A (cond skip B B)
as_sync true skip A B e h = absurd cc
as_sync false true A B e h = h
as_sync false false A B e h = h

-- ---- the Sync

pub nothing_more : (rest : List BackendMessage) (t : Expected) → behind (InQuery NothingMore) rest ≡ Some t → rest ≡ []
nothing_more [] t e = refl
nothing_more (m ∷ rest) t e = absurd cc

pub after_error : (rest : List BackendMessage) (t : Expected) → behind (InQuery AfterError) rest ≡ Some t → (rest ≡ []) ⊎ ((status : _) × (rest ≡ ReadyForQuery status ∷ []))
after_error [] t e = inl refl
after_error (ReadyForQuery status ∷ rest) t e = inr (status, ap (λ (x : List BackendMessage). ReadyForQuery status ∷ x) (nothing_more rest t e))
after_error (_ ∷ rest) t e = absurd cc

pub sync_begins : (m : Server) (own : List BackendMessage) (t : Expected) → m.over ≡ false → behind (InSteps []) own ≡ Some t → AllByRecursion HasBackendFrame own → Begins m (Sync ∷ []) own
sync_begins m [] t o e h = ((ReadyForQuery statuses.Idle ∷ []) ∷ [], after_sync m statuses.Idle, (after_sync m statuses.Idle, as_sync m.over m.skip _ _ o (statuses.Idle, refl, inl refl), refl), (tt, tt), (ReadyForQuery statuses.Idle ∷ [], refl))
sync_begins m (ReadyForQuery status ∷ rest) t o e h =
    rw (nothing_more rest t e) ((ReadyForQuery status ∷ []) ∷ [], after_sync m status, (after_sync m status, as_sync m.over m.skip _ _ o (status, refl, inl refl), refl), (tt, tt), ([], refl))
sync_begins m (ErrorResponse details ∷ rest) t o e h = by (after_error rest t e)
  where
    by : (rest ≡ []) ⊎ ((status : _) × (rest ≡ ReadyForQuery status ∷ [])) → Begins m (Sync ∷ []) (ErrorResponse details ∷ rest)
    by (inl n) = rw n ((ErrorResponse details ∷ ReadyForQuery statuses.Idle ∷ []) ∷ [], after_sync m statuses.Idle, (after_sync m statuses.Idle, as_sync m.over m.skip _ _ o (statuses.Idle, refl, inr (details, refl)), refl), (h.0, (tt, tt)), (ReadyForQuery statuses.Idle ∷ [], refl))
    by (inr s) = rw s.1 ((ErrorResponse details ∷ ReadyForQuery s.0 ∷ []) ∷ [], after_sync m s.0, (after_sync m s.0, as_sync m.over m.skip _ _ o (s.0, refl, inr (details, refl)), refl), (h.0, (tt, tt)), ([], refl))
sync_begins m (_ ∷ rest) t o e h = absurd cc

-- ---- a server that skips

ignores : (m : Server) (message : FrontendMessage) → IsInner message → Skips m message [] m
ignores m (Query sql) i = absurd i
ignores m Sync i = absurd i
ignores m Terminate i = absurd i
ignores m _ i = (refl, refl)

skipping_begins : (m : Server) (inner : List FrontendMessage) (own : List BackendMessage) (t : Expected) → AllByRecursion IsInner inner → m.over ≡ false → m.skip ≡ true → behind (InSteps []) own ≡ Some t → AllByRecursion HasBackendFrame own → Begins m (inner ++ Sync ∷ []) own
skipping_begins m [] own t i o k e h = sync_begins m own t o e h
skipping_begins m (message ∷ inner) own t i o k e h = cons m m message (inner ++ Sync ∷ []) [] own (as_skip m.over m.skip _ _ _ o k (ignores m message i.0)) tt (skipping_begins m inner own t i.1 o k e h)

-- an error in place of the reply, and what follows
broken_begins : (m : Server) (message : FrontendMessage) (inner : List FrontendMessage) (details : List ErrorField) (own : List BackendMessage) (t : Expected) → AllByRecursion IsInner inner → m.over ≡ false → ServerStep m message (ErrorResponse details ∷ []) (record m { skip = true })
    → behind (InSteps []) own ≡ Some t → HasBackendFrame (ErrorResponse details) → AllByRecursion HasBackendFrame own → Begins m (message ∷ (inner ++ Sync ∷ [])) (ErrorResponse details ∷ own)
broken_begins m message inner details own t i o step e h hs = cons m (record m { skip = true }) message (inner ++ Sync ∷ []) (ErrorResponse details ∷ []) own step (h, tt) (skipping_begins (record m { skip = true }) inner own t i o refl e hs)

-- ---- a server that can answer

able_inner : (fields : List FieldDescription) (m : Server) (message : FrontendMessage) → CanAnswer fields m message → IsInner message
able_inner fields m (Parse name sql types) c = tt
able_inner fields m (DescribeStatement name) c = tt
able_inner fields m (Bind name values) c = tt
able_inner fields m (Execute name limit) c = tt
able_inner fields m (CloseStatement name) c = tt
able_inner fields m (ClosePortal name) c = tt
able_inner fields m (DescribePortal name) c = tt
able_inner fields m (CopyData bytes) c = tt
able_inner fields m CopyDone c = tt
able_inner fields m (CopyFail text) c = tt
able_inner fields m (Query sql) c = absurd c
able_inner fields m Sync c = absurd c
able_inner fields m Terminate c = absurd c

all_inner : (fields : List FieldDescription) (m : Server) (ms : List FrontendMessage) → IsAble fields m ms → AllByRecursion IsInner ms
all_inner fields m [] a = tt
all_inner fields m (message ∷ ms) a = (able_inner fields m message a.0, all_inner fields (answered fields m message) ms a.1)

-- what follows a message
abbrev Further : List FieldDescription → Server → List FrontendMessage → List Step → Type 0
Further fields next inner steps = (own : List BackendMessage) (t : Expected) → behind (InSteps steps) own ≡ Some t → AllByRecursion HasBackendFrame own → AllByRecursion (Tells fields) own → DescribeWhole own → Begins next (inner ++ Sync ∷ []) own

-- ---- a message with one reply

abbrev Only : Step → List Step → BackendMessage → Type 0
Only step steps good = (a : BackendMessage) (f : Expected) → in_step step steps a ≡ Some f → ((a ≡ good) × (f ≡ InSteps steps)) ⊎ ((details : List ErrorField) × (a ≡ ErrorResponse details) × (f ≡ InSteps []))

one_begins : (fields : List FieldDescription) (m next : Server) (message : FrontendMessage) (inner : List FrontendMessage) (good : BackendMessage) (step : Step) (steps : List Step) (own : List BackendMessage) (t : Expected) → m.over ≡ false → AllByRecursion IsInner inner
    → ServerStep m message (good ∷ []) next → ((details : List ErrorField) → ServerStep m message (ErrorResponse details ∷ []) (record m { skip = true })) → Only step steps good → HasBackendFrame good → Further fields next inner steps
    → behind (InSteps (step ∷ steps)) own ≡ Some t → AllByRecursion HasBackendFrame own → AllByRecursion (Tells fields) own → DescribeWhole own → Begins m (message ∷ (inner ++ Sync ∷ [])) own
one_begins fields m next message inner good step steps [] t o i well bad only has further e h w d = shorter m (message ∷ (inner ++ Sync ∷ [])) [] (good ∷ []) (cons m next message (inner ++ Sync ∷ []) (good ∷ []) [] well (has, tt) (further [] (InSteps steps) refl tt tt tt))
one_begins fields m next message inner good step steps (a ∷ own) t o i well bad only has further e h w d =
    let s = behind_some (in_step step steps a) own t e in
    by s.0 (only a s.0 s.1) s.2
  where
    by : (f : Expected) → ((a ≡ good) × (f ≡ InSteps steps)) ⊎ ((details : List ErrorField) × (a ≡ ErrorResponse details) × (f ≡ InSteps [])) → behind f own ≡ Some t → Begins m (message ∷ (inner ++ Sync ∷ [])) (a ∷ own)
    by f (inl g) k = rw g.0 (cons m next message (inner ++ Sync ∷ []) (good ∷ []) own well (has, tt) (further own t (rw g.1 at k) h.1 w.1 d.1))
    by f (inr b) k = rw b.1 (broken_begins m message inner b.0 own t i o (bad b.0) (rw b.2 at k) (rw b.1 at h.0) h.1)

pub some_is : (x y : Expected) → Some x ≡ Some y → y ≡ x
some_is x y e = cc

only_parses : (steps : List Step) → Only Parses steps ParseComplete
only_parses steps ParseComplete f e = inl (refl, some_is _ _ e)
only_parses steps (ErrorResponse details) f e = inr (details, refl, some_is _ _ e)
only_parses steps _ f e = absurd cc

only_binds : (steps : List Step) → Only Binds steps BindComplete
only_binds steps BindComplete f e = inl (refl, some_is _ _ e)
only_binds steps (ErrorResponse details) f e = inr (details, refl, some_is _ _ e)
only_binds steps _ f e = absurd cc

only_closes : (steps : List Step) → Only Closes steps CloseComplete
only_closes steps CloseComplete f e = inl (refl, some_is _ _ e)
only_closes steps (ErrorResponse details) f e = inr (details, refl, some_is _ _ e)
only_closes steps _ f e = absurd cc

-- ---- Describe

describes_so : (m : Server) (o : Option Statement) (fields : List FieldDescription) (types : List ℕ) (a : BackendMessage) → ((s : Statement) × (o ≡ Some s) × (s.fields ≡ fields)) → (a ≡ RowDescription fields) ⊎ ((fields ≡ []) × (a ≡ NoData)) → StepsDescribe m o (ParameterDescription types ∷ a ∷ []) m
describes_so m o fields types a s d = rw s.1 (inl (types, a, rw s.2 d, refl, refl))

describe_fails : (m : Server) (o : Option Statement) (details : List ErrorField) → StepsDescribe m o (ErrorResponse details ∷ []) (record m { skip = true })
describe_fails m None details = (details, refl, refl)
describe_fails m (Some s) details = inr (details, refl, refl)

describe_begins : (fields : List FieldDescription) (m : Server) (name : List ℕ) (inner : List FrontendMessage) (steps : List Step) (own : List BackendMessage) (t : Expected) → m.over ≡ false → m.skip ≡ false → AllByRecursion IsInner inner → HasStatement fields m name → HasBackendFrame (RowDescription fields)
    → Further fields m inner steps → behind (InSteps (Types ∷ Columns ∷ steps)) own ≡ Some t → AllByRecursion HasBackendFrame own → AllByRecursion (Tells fields) own → DescribeWhole own → Begins m (DescribeStatement name ∷ (inner ++ Sync ∷ [])) own
describe_begins fields m name inner steps [] t o k i s has further e h w d =
    shorter m (DescribeStatement name ∷ (inner ++ Sync ∷ [])) [] (ParameterDescription [] ∷ RowDescription fields ∷ [])
    (cons m m (DescribeStatement name) (inner ++ Sync ∷ []) (ParameterDescription [] ∷ RowDescription fields ∷ []) [] (as_step m.over m.skip _ _ _ o k (describes_so m _ fields [] (RowDescription fields) s (inl refl))) ((omega arith, tt), (has, tt)) (further [] (InSteps steps) refl tt tt tt))
describe_begins fields m name inner steps (ErrorResponse details ∷ own) t o k i s has further e h w d = broken_begins m (DescribeStatement name) inner details own t i o (as_step m.over m.skip _ _ _ o k (describe_fails m _ details)) e h.0 h.1
describe_begins fields m name inner steps (ParameterDescription types ∷ []) t o k i s has further e h w d =
    shorter m (DescribeStatement name ∷ (inner ++ Sync ∷ [])) (ParameterDescription types ∷ []) (RowDescription fields ∷ [])
    (cons m m (DescribeStatement name) (inner ++ Sync ∷ []) (ParameterDescription types ∷ RowDescription fields ∷ []) [] (as_step m.over m.skip _ _ _ o k (describes_so m _ fields types (RowDescription fields) s (inl refl))) (h.0, (has, tt)) (further [] (InSteps steps) refl tt tt tt))
describe_begins fields m name inner steps (ParameterDescription types ∷ RowDescription told ∷ own) t o k i s has further e h w d =
    cons m m (DescribeStatement name) (inner ++ Sync ∷ []) (ParameterDescription types ∷ RowDescription told ∷ []) own (as_step m.over m.skip _ _ _ o k (describes_so m _ fields types (RowDescription told) s (inl (ap RowDescription w.1.0)))) (h.0, (h.1.0, tt)) (further own t e h.1.1 w.1.1 d.1.1)
describe_begins fields m name inner steps (ParameterDescription types ∷ NoData ∷ own) t o k i s has further e h w d =
    cons m m (DescribeStatement name) (inner ++ Sync ∷ []) (ParameterDescription types ∷ NoData ∷ []) own (as_step m.over m.skip _ _ _ o k (describes_so m _ fields types NoData s (inr (w.1.0, refl)))) (h.0, (tt, tt)) (further own t e h.1.1 w.1.1 d.1.1)
describe_begins fields m name inner steps (ParameterDescription types ∷ ErrorResponse details ∷ own) t o k i s has further e h w d = absurd d.0
describe_begins fields m name inner steps (ParameterDescription types ∷ _ ∷ own) t o k i s has further e h w d = absurd cc
describe_begins fields m name inner steps (_ ∷ own) t o k i s has further e h w d = absurd cc

-- ---- Execute

result_step : (m : Server) (o : Option (List FieldDescription)) (fields : List FieldDescription) (rs : List BackendMessage) → o ≡ Some fields → IsPortalResult (length fields) rs → StepsExecute m o rs m
result_step m o fields rs e p = rw e (inl (p, refl))

failed_step : (m : Server) (o : Option (List FieldDescription)) (fields : List FieldDescription) (rows : List Values) (details : List ErrorField) → o ≡ Some fields → AreWide (length fields) rows → StepsExecute m o (map DataRow rows ++ ErrorResponse details ∷ []) (record m { skip = true })
failed_step m o fields rows details e w = rw e (inr ((map DataRow rows, CommandComplete [] ∷ [], details, (rows, w, inl ([], refl)), (λ n. cc), refl), refl))

rows_have : (rows : List Values) (own : List BackendMessage) → AllByRecursion HasBackendFrame (map DataRow rows) → AllByRecursion HasBackendFrame own → AllByRecursion HasBackendFrame (map DataRow rows ++ own)
rows_have rows own h k = each_join HasBackendFrame (map DataRow rows) own h k

rows_some : (steps : List Step) (o : Option ℕ) (f : Expected) → rows_on steps o ≡ Some f → (n : ℕ) × (f ≡ InSteps (RunsOn n ∷ steps))
rows_some steps None f e = absurd cc
rows_some steps (Some n) f e = (n, some_is _ _ e)

row_moves : (rows : List Values) (row : Values) (own : List BackendMessage) → map DataRow (rows ++ row ∷ []) ++ own ≡ map DataRow rows ++ DataRow row ∷ own
row_moves rows row own = ap (λ (t : List BackendMessage). t ++ own) (map-append DataRow rows (row ∷ [])) ∙ append_assoc (map DataRow rows) (DataRow row ∷ []) own

-- what ends the rows
ended_begins : (m : Server) (name : List ℕ) (limit : ℕ) (fields : List FieldDescription) (inner : List FrontendMessage) (rows : List Values) (last : BackendMessage) (own : List BackendMessage) → m.over ≡ false → m.skip ≡ false → portal_at m name ≡ Some fields → IsPortalResult (length fields) (map DataRow rows ++ last ∷ [])
    → HasBackendFrame last → AllByRecursion HasBackendFrame (map DataRow rows) → Begins m (inner ++ Sync ∷ []) own → Begins m (Execute name limit ∷ (inner ++ Sync ∷ [])) (map DataRow rows ++ last ∷ own)
ended_begins m name limit fields inner rows last own o k p r has have b =
    subst (Begins m (Execute name limit ∷ (inner ++ Sync ∷ []))) (append_assoc (map DataRow rows) (last ∷ []) own)
    (cons m m (Execute name limit) (inner ++ Sync ∷ []) (map DataRow rows ++ last ∷ []) own (as_step m.over m.skip _ _ _ o k (result_step m _ fields _ p r)) (rows_have rows (last ∷ []) have (has, tt)) b)

failed_begins : (m : Server) (name : List ℕ) (limit : ℕ) (fields : List FieldDescription) (inner : List FrontendMessage) (rows : List Values) (details : List ErrorField) (own : List BackendMessage) (t : Expected) → m.over ≡ false → m.skip ≡ false → AllByRecursion IsInner inner → portal_at m name ≡ Some fields → AreWide (length fields) rows
    → behind (InSteps []) own ≡ Some t → HasBackendFrame (ErrorResponse details) → AllByRecursion HasBackendFrame (map DataRow rows) → AllByRecursion HasBackendFrame own → Begins m (Execute name limit ∷ (inner ++ Sync ∷ [])) (map DataRow rows ++ ErrorResponse details ∷ own)
failed_begins m name limit fields inner rows details own t o k i p w e has have h =
    subst (Begins m (Execute name limit ∷ (inner ++ Sync ∷ []))) (append_assoc (map DataRow rows) (ErrorResponse details ∷ []) own)
    (cons m (record m { skip = true }) (Execute name limit) (inner ++ Sync ∷ []) (map DataRow rows ++ ErrorResponse details ∷ []) own (as_step m.over m.skip _ _ _ o k (failed_step m _ fields rows details p w)) (rows_have rows (ErrorResponse details ∷ []) have (has, tt)) (skipping_begins (record m { skip = true }) inner own t i o refl e h))

run_on : (fields : List FieldDescription) (m : Server) (name : List ℕ) (limit : ℕ) (inner : List FrontendMessage) (steps : List Step) (width : ℕ) (rows : List Values) (own : List BackendMessage) (t : Expected) → m.over ≡ false → m.skip ≡ false → AllByRecursion IsInner inner → portal_at m name ≡ Some fields → Further fields m inner steps → AreWide (length fields) rows
    → AllByRecursion HasBackendFrame (map DataRow rows) → behind (InSteps (RunsOn width ∷ steps)) own ≡ Some t → AllByRecursion HasBackendFrame own → AllByRecursion (Tells fields) own → DescribeWhole own → Begins m (Execute name limit ∷ (inner ++ Sync ∷ [])) (map DataRow rows ++ own)
run_on fields m name limit inner steps width rows [] t o k i p further w have e h told d =
    shorter m (Execute name limit ∷ (inner ++ Sync ∷ [])) (map DataRow rows ++ []) (CommandComplete [] ∷ [])
    (subst (λ (x : List BackendMessage). Begins m (Execute name limit ∷ (inner ++ Sync ∷ [])) (x ++ CommandComplete [] ∷ [])) (sym (append-nil (map DataRow rows))) (ended_begins m name limit fields inner rows (CommandComplete []) [] o k p (rows, w, inl ([], refl)) refl have (further [] (InSteps steps) refl tt tt tt)))
run_on fields m name limit inner steps width rows (CommandComplete tag ∷ own) t o k i p further w have e h told d = ended_begins m name limit fields inner rows (CommandComplete tag) own o k p (rows, w, inl (tag, refl)) h.0 have (further own t e h.1 told.1 d.1)
run_on fields m name limit inner steps width rows (EmptyQueryResponse ∷ own) t o k i p further w have e h told d = ended_begins m name limit fields inner rows EmptyQueryResponse own o k p (rows, w, inr refl) tt have (further own t e h.1 told.1 d.1)
run_on fields m name limit inner steps width rows (ErrorResponse details ∷ own) t o k i p further w have e h told d = failed_begins m name limit fields inner rows details own t o k i p w e h.0 have h.1
run_on fields m name limit inner steps width rows (DataRow row ∷ own) t o k i p further w have e h told d =
    let s = behind_some (rows_on steps (width_behind (Some width) (length row))) own t e in
    let n = rows_some steps _ s.0 s.1 in
    subst (Begins m (Execute name limit ∷ (inner ++ Sync ∷ []))) (row_moves rows row own)
    (run_on fields m name limit inner steps n.0 (rows ++ row ∷ []) own t o k i p further (each_end (λ (r : Values). length r ≡ length fields) rows row w told.0) (subst (AllByRecursion HasBackendFrame) (sym (map-append DataRow rows (row ∷ []))) (each_join HasBackendFrame (map DataRow rows) (DataRow row ∷ []) have (h.0, tt))) (rw n.1 at s.2) h.1 told.1 d.1)
run_on fields m name limit inner steps width rows (_ ∷ own) t o k i p further w have e h told d = absurd cc

run_begins : (fields : List FieldDescription) (m : Server) (name : List ℕ) (limit : ℕ) (inner : List FrontendMessage) (steps : List Step) (portal : Option ℕ) (own : List BackendMessage) (t : Expected) → m.over ≡ false → m.skip ≡ false → AllByRecursion IsInner inner → portal_at m name ≡ Some fields → Further fields m inner steps
    → behind (InSteps (Runs portal ∷ steps)) own ≡ Some t → AllByRecursion HasBackendFrame own → AllByRecursion (Tells fields) own → DescribeWhole own → Begins m (Execute name limit ∷ (inner ++ Sync ∷ [])) own
run_begins fields m name limit inner steps portal [] t o k i p further e h told d = run_on fields m name limit inner steps 0 [] [] (InSteps (RunsOn 0 ∷ steps)) o k i p further tt tt refl h told d
run_begins fields m name limit inner steps portal (CommandComplete tag ∷ own) t o k i p further e h told d = run_on fields m name limit inner steps 0 [] (CommandComplete tag ∷ own) t o k i p further tt tt e h told d
run_begins fields m name limit inner steps portal (EmptyQueryResponse ∷ own) t o k i p further e h told d = run_on fields m name limit inner steps 0 [] (EmptyQueryResponse ∷ own) t o k i p further tt tt e h told d
run_begins fields m name limit inner steps portal (ErrorResponse details ∷ own) t o k i p further e h told d = run_on fields m name limit inner steps 0 [] (ErrorResponse details ∷ own) t o k i p further tt tt e h told d
run_begins fields m name limit inner steps portal (DataRow row ∷ own) t o k i p further e h told d =
    let s = behind_some (rows_on steps (width_behind portal (length row))) own t e in
    let n = rows_some steps _ s.0 s.1 in
    run_on fields m name limit inner steps n.0 (row ∷ []) own t o k i p further (told.0, tt) (h.0, tt) (rw n.1 at s.2) h.1 told.1 d.1
run_begins fields m name limit inner steps portal (_ ∷ own) t o k i p further e h told d = absurd cc

-- ---- the whole group

binds_so : (m : Server) (o : Option Statement) (fields : List FieldDescription) → ((s : Statement) × (o ≡ Some s) × (s.fields ≡ fields)) → StepsBind m o (BindComplete ∷ []) (record m { portal = Some fields })
binds_so m o fields s = rw (s.1, ← s.2) (inl (refl, refl))

bind_fails : (m : Server) (o : Option Statement) (details : List ErrorField) → StepsBind m o (ErrorResponse details ∷ []) (record m { skip = true })
bind_fails m None details = (details, refl, refl)
bind_fails m (Some s) details = inr (details, refl, refl)

describes_portal : (m : Server) (o : Option (List FieldDescription)) (fields : List FieldDescription) (a : BackendMessage) → o ≡ Some fields → (a ≡ RowDescription fields) ⊎ ((fields ≡ []) × (a ≡ NoData)) → StepsDescribePortal m o (a ∷ []) m
describes_portal m o fields a p d = rw p (inl (a, d, refl, refl))

describe_portal_fails : (m : Server) (o : Option (List FieldDescription)) (details : List ErrorField) → StepsDescribePortal m o (ErrorResponse details ∷ []) (record m { skip = true })
describe_portal_fails m None details = (details, refl, refl)
describe_portal_fails m (Some fields) details = inr (details, refl, refl)

portal_begins : (fields : List FieldDescription) (m : Server) (name : List ℕ) (inner : List FrontendMessage) (steps : List Step) (own : List BackendMessage) (t : Expected) → m.over ≡ false → m.skip ≡ false → AllByRecursion IsInner inner → portal_at m name ≡ Some fields → HasBackendFrame (RowDescription fields)
    → Further fields m inner steps → behind (InSteps (Columns ∷ steps)) own ≡ Some t → AllByRecursion HasBackendFrame own → AllByRecursion (Tells fields) own → DescribeWhole own → Begins m (DescribePortal name ∷ (inner ++ Sync ∷ [])) own
portal_begins fields m name inner steps [] t o k i p has further e h w d =
    shorter m (DescribePortal name ∷ (inner ++ Sync ∷ [])) [] (RowDescription fields ∷ [])
    (cons m m (DescribePortal name) (inner ++ Sync ∷ []) (RowDescription fields ∷ []) [] (as_step m.over m.skip _ _ _ o k (describes_portal m _ fields (RowDescription fields) p (inl refl))) (has, tt) (further [] (InSteps steps) refl tt tt tt))
portal_begins fields m name inner steps (ErrorResponse details ∷ own) t o k i p has further e h w d = broken_begins m (DescribePortal name) inner details own t i o (as_step m.over m.skip _ _ _ o k (describe_portal_fails m _ details)) e h.0 h.1
portal_begins fields m name inner steps (RowDescription told ∷ own) t o k i p has further e h w d =
    cons m m (DescribePortal name) (inner ++ Sync ∷ []) (RowDescription told ∷ []) own (as_step m.over m.skip _ _ _ o k (describes_portal m _ fields (RowDescription told) p (inl (ap RowDescription w.0)))) (h.0, tt) (further own t e h.1 w.1 d.1)
portal_begins fields m name inner steps (NoData ∷ own) t o k i p has further e h w d =
    cons m m (DescribePortal name) (inner ++ Sync ∷ []) (NoData ∷ []) own (as_step m.over m.skip _ _ _ o k (describes_portal m _ fields NoData p (inr (w.0, refl)))) (tt, tt) (further own t e h.1 w.1 d.1)
portal_begins fields m name inner steps (_ ∷ own) t o k i p has further e h w d = absurd cc

pub able_begins : (fields : List FieldDescription) (inner : List FrontendMessage) (widths : Widths) (portal : Option ℕ) (m : Server) (own : List BackendMessage) (t : Expected) → m.over ≡ false → m.skip ≡ false → IsAble fields m inner
    → behind (InSteps (steps_of widths portal (inner ++ Sync ∷ []))) own ≡ Some t → AllByRecursion HasBackendFrame own → AllByRecursion (Tells fields) own → DescribeWhole own → Begins m (inner ++ Sync ∷ []) own
able_begins fields [] widths portal m own t o k a e h w d = sync_begins m own t o e h
able_begins fields (Parse name sql types ∷ inner) widths portal m own t o k a e h w d =
    let s : Statement = record { sql = sql; fields = fields } in
    one_begins fields m (with_statement m name s) (Parse name sql types) inner ParseComplete Parses _ own t o (all_inner fields _ inner a.1) (as_step m.over m.skip _ _ _ o k (inl (a.0, fields, refl, refl))) (λ x. as_step m.over m.skip _ _ _ o k (inr (x, refl, refl))) (only_parses _) tt
    (λ x u f g y z. able_begins fields inner (widths_after widths (Parse name sql types)) portal (with_statement m name s) x u (with_over m name s ∙ o) (with_skip m name s ∙ k) a.1 f g y z) e h w d
able_begins fields (DescribeStatement name ∷ inner) widths portal m own t o k a e h w d =
    describe_begins fields m name inner _ own t o k (all_inner fields m inner a.1) a.0.0 a.0.1 (λ x u f g y z. able_begins fields inner widths portal m x u o k a.1 f g y z) e h w d
able_begins fields (DescribePortal name ∷ inner) widths portal m own t o k a e h w d =
    portal_begins fields m name inner _ own t o k (all_inner fields m inner a.1) a.0.0 a.0.1 (λ x u f g y z. able_begins fields inner widths portal m x u o k a.1 f g y z) e h w d
able_begins fields (Bind name values ∷ inner) widths portal m own t o k a e h w d =
    one_begins fields m (record m { portal = Some fields }) (Bind name values) inner BindComplete Binds _ own t o (all_inner fields _ inner a.1) (as_step m.over m.skip _ _ _ o k (binds_so m _ fields a.0)) (λ x. as_step m.over m.skip _ _ _ o k (bind_fails m _ x)) (only_binds _) tt
    (λ x u f g y z. able_begins fields inner widths (portal_width widths portal (Bind name values)) (record m { portal = Some fields }) x u o k a.1 f g y z) e h w d
able_begins fields (Execute name limit ∷ inner) widths portal m own t o k a e h w d =
    run_begins fields m name limit inner _ portal own t o k (all_inner fields m inner a.1) a.0 (λ x u f g y z. able_begins fields inner widths portal m x u o k a.1 f g y z) e h w d
able_begins fields (CloseStatement name ∷ inner) widths portal m own t o k a e h w d =
    one_begins fields m (without_statement m name) (CloseStatement name) inner CloseComplete Closes _ own t o (all_inner fields _ inner a.1) (as_step m.over m.skip _ _ _ o k (inl (refl, refl))) (λ x. as_step m.over m.skip _ _ _ o k (inr (x, refl, refl))) (only_closes _) tt
    (λ x u f g y z. able_begins fields inner (widths_after widths (CloseStatement name)) portal (without_statement m name) x u (without_over m name ∙ o) (without_skip m name ∙ k) a.1 f g y z) e h w d
able_begins fields (ClosePortal [] ∷ inner) widths portal m own t o k a e h w d =
    one_begins fields m (record m { portal = None }) (ClosePortal []) inner CloseComplete Closes _ own t o (all_inner fields _ inner a.1) (as_step m.over m.skip _ _ _ o k (inl (refl, refl))) (λ x. as_step m.over m.skip _ _ _ o k (inr (x, refl, refl))) (only_closes _) tt
    (λ x u f g y z. able_begins fields inner widths portal (record m { portal = None }) x u o k a.1 f g y z) e h w d
able_begins fields (ClosePortal (b ∷ bs) ∷ inner) widths portal m own t o k a e h w d =
    one_begins fields m m (ClosePortal (b ∷ bs)) inner CloseComplete Closes _ own t o (all_inner fields _ inner a.1) (as_step m.over m.skip _ _ _ o k (inl (refl, refl))) (λ x. as_step m.over m.skip _ _ _ o k (inr (x, refl, refl))) (only_closes _) tt
    (λ x u f g y z. able_begins fields inner widths portal m x u o k a.1 f g y z) e h w d
able_begins fields (CopyData bytes ∷ inner) widths portal m own t o k a e h w d = cons m m (CopyData bytes) (inner ++ Sync ∷ []) [] own (as_step m.over m.skip _ _ _ o k (refl, refl)) tt (able_begins fields inner widths portal m own t o k a.1 e h w d)
able_begins fields (CopyDone ∷ inner) widths portal m own t o k a e h w d = cons m m CopyDone (inner ++ Sync ∷ []) [] own (as_step m.over m.skip _ _ _ o k (refl, refl)) tt (able_begins fields inner widths portal m own t o k a.1 e h w d)
able_begins fields (CopyFail text ∷ inner) widths portal m own t o k a e h w d = cons m m (CopyFail text) (inner ++ Sync ∷ []) [] own (as_step m.over m.skip _ _ _ o k (refl, refl)) tt (able_begins fields inner widths portal m own t o k a.1 e h w d)
able_begins fields (Query sql ∷ inner) widths portal m own t o k a e h w d = absurd a.0
able_begins fields (Sync ∷ inner) widths portal m own t o k a e h w d = absurd a.0
able_begins fields (Terminate ∷ inner) widths portal m own t o k a e h w d = absurd a.0

-- ---- any server that knows so many widths

begins_knowing : (widths : Widths) (group : List FrontendMessage) (m : Server) (own : List BackendMessage) → IsBetween m → HasWidths m widths → Begins m group own → BeginsKnowing widths group (map backend_frame own)
begins_knowing widths group m own between known b = (
  record {
    before = plain m;
    after = plain b.1;
    replies = b.0;
    between = (refl, between);
    run = run_copies m b.1 group b.0 b.2;
    replies_have_frames = b.3;
    begins = (map backend_frame b.4.0, sym (map-append backend_frame own b.4.0) ∙ ap (map backend_frame) b.4.1);
  },
  known,
)

-- what is accepted begins a response, of a server that can answer each message of the group
pub accepted_begins_response : (fields : List FieldDescription) (inner : List FrontendMessage) (widths : Widths) (m : Server) (own : List BackendMessage) (t : Expected) → IsBetween m → HasWidths m widths → IsAble fields m inner → behind (expected widths (inner ++ Sync ∷ [])) own ≡ Some t
    → AllByRecursion HasBackendFrame own → AllByRecursion (Tells fields) own → DescribeWhole own → BeginsKnowing widths (inner ++ Sync ∷ []) (map backend_frame own)
accepted_begins_response fields inner widths m own t between known able e h told d =
    let i = all_inner fields m inner able in
    begins_knowing widths (inner ++ Sync ∷ []) m own between known
    (able_begins fields inner widths None m own t between.0 between.1 able (ap (λ (x : Expected). behind x own) (sym (starts_with_steps widths inner i)) ∙ e) h told d)

-- ---- a Query

query_accepted : (s : Awaits) (own : List BackendMessage) (t : Expected) → behind (InQuery s) own ≡ Some t → (u : Awaits) × (accepts s own ≡ Some u)
query_accepted s [] t e = (s, refl)
query_accepted s (m ∷ own) t e = by (next s m) e (λ u k. query_accepted u own t k)
  where
    by : (o : Option Awaits) → option_and_then (λ f. behind f own) (in_query o) ≡ Some t → ((u : Awaits) → behind (InQuery u) own ≡ Some t → (v : Awaits) × (accepts u own ≡ Some v)) → (v : Awaits) × (option_and_then (λ u. accepts u own) o ≡ Some v)
    by None k f = absurd cc
    by (Some u) k f = f u k

-- what is accepted begins the response of any server between two groups
pub accepted_begins_query_response : (sql : List ℕ) (widths : Widths) (m : Server) (own : List BackendMessage) (t : Expected) → IsBetween m → HasWidths m widths → behind (expected widths (Query sql ∷ [])) own ≡ Some t → AllByRecursion HasBackendFrame own → BeginsKnowing widths (Query sql ∷ []) (map backend_frame own)
accepted_begins_query_response sql widths m own t between known e h =
    let a = query_accepted FirstSegment own t e in
    let c = accepted_can_end own a.0 a.1 in
    let after : Server = record m { unnamed = None; portal = None } in
    begins_knowing widths (Query sql ∷ []) m own between known (
      (own ++ c.0) ∷ [],
      after,
      (after, as_step m.over m.skip _ _ _ between.0 between.1 (c.1, refl), refl),
      subst (AllByRecursion HasBackendFrame) (sym (append-nil (own ++ c.0))) (each_join HasBackendFrame own c.0 h c.2),
      (c.0, sym (append-nil (own ++ c.0))),
    )
