-- What is known of the columns of statements stays known over groups, and is added by a description.
use Rattle.std.proofs.Common.{◌≡◌, ◌≢◌, ℕ, Bool, true, false, ◌||◌, cond, List, [], ◌∷◌, ◌++◌, length, Option, Some, None, refl, sym, ap, ◌∙◌, subst, flat_map, ◌⊎◌, inl, inr}
use Rattle.std.specs.List.{AllByRecursion}
use Rattle.pg_wire.specs.declared.fields.ErrorField.{ErrorField}
use Rattle.pg_wire.specs.declared.status.TransactionStatus.{TransactionStatus}
use Rattle.pg_wire.specs.Frontend.{FrontendMessage, Query, Parse, DescribeStatement, Execute, CloseStatement, Sync, Terminate, CopyData, CopyDone}
use Rattle.pg_wire.specs.Backend.{FieldDescription, BackendMessage, ParameterDescription, ParseComplete, ErrorResponse, ReadyForQuery}
use Rattle.pg_wire.specs.Server.{Server, Statement, statement_at, with_statement, portal_at, StepsParse, StepsDescribe, DescribesFields, after_sync, ServerStep}
use Rattle.pg_wire.specs.Groups.{IsBetween}
use Rattle.pg_wire.specs.Copying.{CopyServer, CopyMode, NotCopying, QueryCopies, ExecuteCopies, Leaves, AnswersQuery, StepsCopyExecute, StepsOutsideCopy, StepsInQueryCopy, StepsInExecuteCopy, StepsInMode, CopyStep, CopyRun}
use Rattle.pg_exchanges.specs.Expecting.{Widths, HasWidth, HasWidths}
use Rattle.pg_exchanges.specs.Keeping.{Named, Keeps}
use Rattle.pg_exchanges.specs.Answering.{described, IsNoError, IsClosedBy, IsKeptBy, describing}
use Rattle.pg_wire.proofs.Each.{each_first, each_last}
use Rattle.pg_wire.proofs.StepLaws.{statement_stays}
use Rattle.pg_wire.proofs.RunLaws.{with_over, sync_step}
use Rattle.pg_wire.proofs.CopyLaws.{plain}
use Rattle.pg_exchanges.proofs.ExpectingLaws.{only_mode, went_step, plainly, with_skip}
use Rattle.pg_exchanges.proofs.KindLaws.{stands_at}

-- ---- a statement with a name stays

abbrev Stays : List ℕ → Statement → FrontendMessage → CopyServer → Type 0
Stays name s message new = (statement_at new.server name ≡ Some s) ⊎ (message ≡ CloseStatement name)

left : (name : List ℕ) (s : Statement) (message : FrontendMessage) (next : Server) (mode : CopyMode) (new : CopyServer) → Leaves next mode new → statement_at next name ≡ Some s → Stays name s message new
left name s message next mode new l e = inl (ap (λ (c : CopyServer). statement_at c.server name) l ∙ e)

stepped : (b : ℕ) (bs : List ℕ) (s : Statement) (message : FrontendMessage) (old next : Server) (mode : CopyMode) (new : CopyServer) (rs : List BackendMessage) → statement_at old (b ∷ bs) ≡ Some s → ServerStep old message rs next → Leaves next mode new → Stays (b ∷ bs) s message new
stepped b bs s message old next mode new rs e step l = by (statement_stays old next message rs b bs s e step)
  where
    by : (statement_at next (b ∷ bs) ≡ Some s) ⊎ (message ≡ CloseStatement (b ∷ bs)) → Stays (b ∷ bs) s message new
    by (inl k) = left (b ∷ bs) s message next mode new l k
    by (inr k) = inr k

answering : (b : ℕ) (bs : List ℕ) (s : Statement) (message : FrontendMessage) (server : Server) (new : CopyServer) (rs : List BackendMessage) → statement_at server (b ∷ bs) ≡ Some s → AnswersQuery server rs new → Stays (b ∷ bs) s message new
answering b bs s message server new rs e (inl h) = left (b ∷ bs) s message server NotCopying new h.1 e
answering b bs s message server new rs e (inr h) = left (b ∷ bs) s message server QueryCopies new h.1 e

executing : (b : ℕ) (bs : List ℕ) (s : Statement) (message : FrontendMessage) (server : Server) (o : Option (List FieldDescription)) (new : CopyServer) (rs : List BackendMessage) → statement_at server (b ∷ bs) ≡ Some s → StepsCopyExecute server o rs new → Stays (b ∷ bs) s message new
executing b bs s message server None new rs e h = left (b ∷ bs) s message (record server { skip = true }) NotCopying new h.2 e
executing b bs s message server (Some fields) new rs e (inl h) = left (b ∷ bs) s message server NotCopying new h.1 e
executing b bs s message server (Some fields) new rs e (inr (inl h)) = left (b ∷ bs) s message (record server { skip = true }) NotCopying new h.1 e
executing b bs s message server (Some fields) new rs e (inr (inr h)) = left (b ∷ bs) s message server ExecuteCopies new h.3 e

outside_stays : (b : ℕ) (bs : List ℕ) (s : Statement) (message : FrontendMessage) (server : Server) (new : CopyServer) (rs : List BackendMessage) → statement_at server (b ∷ bs) ≡ Some s → StepsOutsideCopy server message rs new → Stays (b ∷ bs) s message new
outside_stays b bs s (Query sql) server new rs e h = answering b bs s (Query sql) (record server { unnamed = None; portal = None }) new rs e h
outside_stays b bs s (Execute name limit) server new rs e h = executing b bs s (Execute name limit) server (portal_at server name) new rs e h
outside_stays b bs s message server new rs e h = stepped b bs s message server h.0 NotCopying new rs e h.1 h.2

in_query_stays : (b : ℕ) (bs : List ℕ) (s : Statement) (message : FrontendMessage) (server : Server) (new : CopyServer) (rs : List BackendMessage) → statement_at server (b ∷ bs) ≡ Some s → StepsInQueryCopy server message rs new → Stays (b ∷ bs) s message new
in_query_stays b bs s (CopyData bytes) server new rs e h = left (b ∷ bs) s (CopyData bytes) server QueryCopies new h.1 e
in_query_stays b bs s CopyDone server new rs e (inl h) = by h.3
  where
    by : ((status : TransactionStatus) × (h.1 ≡ ReadyForQuery status ∷ []) × Leaves server NotCopying new) ⊎ AnswersQuery server h.1 new → Stays (b ∷ bs) s CopyDone new
    by (inl k) = left (b ∷ bs) s CopyDone server NotCopying new k.2 e
    by (inr k) = answering b bs s CopyDone server new h.1 e k
in_query_stays b bs s CopyDone server new rs e (inr h) = left (b ∷ bs) s CopyDone server NotCopying new h.3 e
in_query_stays b bs s Sync server new rs e h = absurd h
in_query_stays b bs s Terminate server new rs e h = left (b ∷ bs) s Terminate (record server { over = true }) NotCopying new h.1 e
in_query_stays b bs s message server new rs e h = left (b ∷ bs) s message server NotCopying new h.3 e

in_execute_stays : (b : ℕ) (bs : List ℕ) (s : Statement) (message : FrontendMessage) (server : Server) (new : CopyServer) (rs : List BackendMessage) → statement_at server (b ∷ bs) ≡ Some s → StepsInExecuteCopy server message rs new → Stays (b ∷ bs) s message new
in_execute_stays b bs s (CopyData bytes) server new rs e h = left (b ∷ bs) s (CopyData bytes) server ExecuteCopies new h.1 e
in_execute_stays b bs s CopyDone server new rs e (inl h) = left (b ∷ bs) s CopyDone server NotCopying new h.2 e
in_execute_stays b bs s CopyDone server new rs e (inr h) = left (b ∷ bs) s CopyDone (record server { skip = true }) NotCopying new h.2 e
in_execute_stays b bs s Sync server new rs e h = absurd h
in_execute_stays b bs s Terminate server new rs e h = left (b ∷ bs) s Terminate (record server { over = true }) NotCopying new h.1 e
in_execute_stays b bs s message server new rs e h = left (b ∷ bs) s message (record server { skip = true }) NotCopying new h.2 e

mode_stays : (b : ℕ) (bs : List ℕ) (s : Statement) (message : FrontendMessage) (server : Server) (mode : CopyMode) (new : CopyServer) (rs : List BackendMessage) → statement_at server (b ∷ bs) ≡ Some s → StepsInMode server mode message rs new → Stays (b ∷ bs) s message new
mode_stays b bs s message server NotCopying new rs e h = outside_stays b bs s message server new rs e h
mode_stays b bs s message server QueryCopies new rs e h = in_query_stays b bs s message server new rs e h
mode_stays b bs s message server ExecuteCopies new rs e h = in_execute_stays b bs s message server new rs e h

step_stays : (b : ℕ) (bs : List ℕ) (s : Statement) (message : FrontendMessage) (old new : CopyServer) (rs : List BackendMessage) → statement_at old.server (b ∷ bs) ≡ Some s → CopyStep old message rs new → Stays (b ∷ bs) s message new
step_stays b bs s message old new rs e h = by (old.server.over || old.server.skip) h
  where
    by : (c : Bool) → cond c ((next : Server) × ServerStep old.server message rs next × Leaves next old.mode new) (StepsInMode old.server old.mode message rs new) → Stays (b ∷ bs) s message new
    by true k = stepped b bs s message old.server k.0 old.mode new rs e k.1 k.2
    by false k = mode_stays b bs s message old.server old.mode new rs e k

pub run_stays : (b : ℕ) (bs : List ℕ) (s : Statement) (messages : List FrontendMessage) (old new : CopyServer) (rss : List (List BackendMessage)) → statement_at old.server (b ∷ bs) ≡ Some s → CopyRun old messages rss new → (IsClosedBy messages (b ∷ bs) → ⊥) → statement_at new.server (b ∷ bs) ≡ Some s
run_stays b bs s [] old new [] e run n = ap (λ (c : CopyServer). statement_at c.server (b ∷ bs)) run ∙ e
run_stays b bs s [] old new (rs ∷ rss) e run n = absurd run
run_stays b bs s (m ∷ ms) old new [] e run n = absurd run
run_stays b bs s (m ∷ ms) old new (rs ∷ rss) e run n = by (step_stays b bs s m old run.0 rs e run.1) (λ k. run_stays b bs s ms run.0 new rss k run.2 (λ c. n (inr c)))
  where
    by : Stays (b ∷ bs) s m run.0 → (statement_at run.0.server (b ∷ bs) ≡ Some s → statement_at new.server (b ∷ bs) ≡ Some s) → statement_at new.server (b ∷ bs) ≡ Some s
    by (inl k) f = f k
    by (inr k) f = absurd (n (inl k))

width_stays : (name : List ℕ) (width : ℕ) (messages : List FrontendMessage) (old new : CopyServer) (rss : List (List BackendMessage)) → CopyRun old messages rss new → name ≢ [] → (IsClosedBy messages name → ⊥) → HasWidth old.server (name, width) → HasWidth new.server (name, width)
width_stays [] width messages old new rss run n c h = absurd (n refl)
width_stays (b ∷ bs) width messages old new rss run n c h = (h.0, run_stays b bs h.0 messages old new rss h.1 run c, h.2)

pub widths_stay : (widths : Widths) (messages : List FrontendMessage) (old new : CopyServer) (rss : List (List BackendMessage)) → CopyRun old messages rss new → AllByRecursion (IsKeptBy messages) widths → HasWidths old.server widths → HasWidths new.server widths
widths_stay [] messages old new rss run k h = tt
widths_stay (w ∷ ws) messages old new rss run k h = (width_stays w.0 w.1 messages old new rss run k.0.0 k.0.1 h.0, widths_stay ws messages old new rss run k.1 h.1)

-- ---- a description adds a width

no_error : (rs : List BackendMessage) (details : List ErrorField) → AllByRecursion IsNoError rs → rs ≡ ErrorResponse details ∷ [] → ⊥
no_error rs details h e = (subst (AllByRecursion IsNoError) e h).0

-- a Parse and a Describe that didn't fail
parsed : (m next : Server) (name sql : List ℕ) (rs : List BackendMessage) → AllByRecursion IsNoError rs → StepsParse m name sql rs next → (fields : List FieldDescription) × (rs ≡ ParseComplete ∷ []) × (next ≡ with_statement m name (record { sql = sql; fields = fields }))
parsed m next name sql rs h (inl p) = (p.1, p.2, p.3)
parsed m next name sql rs h (inr f) = absurd (no_error rs f.0 h f.1)

abbrev Described : Server → List FieldDescription → List BackendMessage → Server → Type 0
Described m fields rs next = (types : List ℕ) × (a : BackendMessage) × DescribesFields fields a × (rs ≡ ParameterDescription types ∷ a ∷ []) × (next ≡ m)

told_so : (m next : Server) (o : Option Statement) (s : Statement) (rs : List BackendMessage) → o ≡ Some s → AllByRecursion IsNoError rs → StepsDescribe m o rs next → Described m s.fields rs next
told_so m next None s rs e h d = absurd cc
told_so m next (Some x) s rs e h (inl d) = subst (λ (y : Statement). Described m y.fields rs next) (e' x s e) d
  where
    e' : (x s : Statement) → Some x ≡ Some s → x ≡ s
    e' x s k = cc
told_so m next (Some x) s rs e h (inr f) = absurd (no_error rs f.0 h f.1)

described_by : (fields : List FieldDescription) (types : List ℕ) (a : BackendMessage) (rest : List BackendMessage) → DescribesFields fields a → fields ≡ described (ParseComplete ∷ ParameterDescription types ∷ a ∷ rest)
described_by fields types a rest (inl e) = rw e refl
described_by fields types a rest (inr e) = rw e.1 e.0

synced_at : (m : Server) (name : List ℕ) (status : TransactionStatus) → statement_at (after_sync m status) name ≡ statement_at m name
synced_at m [] status = refl
synced_at m (b ∷ bs) status = refl

-- a statement as its description told of it
abbrev pub told_as : List ℕ → List ℕ → List BackendMessage → Named
told_as name sql response = record { name = name; sql = sql; width = length (described response) }

add_width : (m : Server) (name sql types : List ℕ) (c1 c2 c3 : CopyServer) (r1 r2 r3 rest : List BackendMessage) → m.over ≡ false → m.skip ≡ false → CopyStep (plain m) (Parse name sql types) r1 c1 → CopyStep c1 (DescribeStatement name) r2 c2 → CopyStep c2 Sync r3 c3
    → AllByRecursion IsNoError r1 → AllByRecursion IsNoError r2 → Keeps c3.server (told_as name sql (r1 ++ (r2 ++ rest)))
add_width m name sql types c1 c2 c3 r1 r2 r3 rest o k step1 step2 step3 h1 h2 =
    let w1 = went_step m c1 (Parse name sql types) r1 o k step1 in
    let p = parsed m w1.0 name sql r1 h1 (plainly m w1.0 (Parse name sql types) r1 o k w1.1) in
    let s : Statement = record { sql = sql; fields = p.0 } in
    let m1 : Server = with_statement m name s in
    let o1 : m1.over ≡ false = with_over m name s ∙ o in
    let k1 : m1.skip ≡ false = with_skip m name s ∙ k in
    let at1 : c1 ≡ plain m1 = w1.2 ∙ ap plain p.2 in
    let w2 = went_step m1 c2 (DescribeStatement name) r2 o1 k1 (subst (λ (c : CopyServer). CopyStep c (DescribeStatement name) r2 c2) at1 step2) in
    let d = told_so m1 w2.0 (statement_at m1 name) s r2 (stands_at m name s) h2 (plainly m1 w2.0 (DescribeStatement name) r2 o1 k1 w2.1) in
    let at2 : c2 ≡ plain m1 = w2.2 ∙ ap plain d.4 in
    let w3 = went_step m1 c3 Sync r3 o1 k1 (subst (λ (c : CopyServer). CopyStep c Sync r3 c3) at2 step3) in
    let y = sync_step m1 w3.0 r3 o1 w3.1 in
    let stands : statement_at c3.server name ≡ Some s = ap (λ (c : CopyServer). statement_at c.server name) (w3.2 ∙ ap plain y.1) ∙ synced_at m1 name y.0 ∙ stands_at m name s in
    let columns : p.0 ≡ described (r1 ++ (r2 ++ rest)) = described_by p.0 d.0 d.1 rest d.2 ∙ ap described (sym (joined d.0 d.1 p.1 d.3)) in
    (s, stands, refl, ap length columns)
  where
    joined : (types : List ℕ) (a : BackendMessage) → r1 ≡ ParseComplete ∷ [] → r2 ≡ ParameterDescription types ∷ a ∷ [] → r1 ++ (r2 ++ rest) ≡ ParseComplete ∷ ParameterDescription types ∷ a ∷ rest
    joined types a e f = rw (e, f) refl

pub description_keeps : (before after : CopyServer) (name sql types : List ℕ) (rss : List (List BackendMessage)) → before.mode ≡ NotCopying → IsBetween before.server → CopyRun before (describing name sql types) rss after
    → AllByRecursion IsNoError (flat_map (λ rs. rs) rss) → Keeps after.server (told_as name sql (flat_map (λ rs. rs) rss))
description_keeps before after name sql types [] mode b run h = absurd run
description_keeps before after name sql types (r1 ∷ []) mode b run h = absurd run.2
description_keeps before after name sql types (r1 ∷ r2 ∷ []) mode b run h = absurd run.2.2
description_keeps before after name sql types (r1 ∷ r2 ∷ r3 ∷ []) mode b run h =
    let further = each_last IsNoError r1 (r2 ++ (r3 ++ [])) h in
    subst (λ (c : CopyServer). Keeps c.server (told_as name sql (r1 ++ (r2 ++ (r3 ++ []))))) (sym run.2.2.2)
    (add_width before.server name sql types run.0 run.2.0 run.2.2.0 r1 r2 r3 (r3 ++ []) b.0 b.1 (subst (λ (c : CopyServer). CopyStep c (Parse name sql types) r1 run.0) (only_mode before mode) run.1) run.2.1 run.2.2.1 (each_first IsNoError r1 (r2 ++ (r3 ++ [])) h) (each_first IsNoError r2 (r3 ++ []) further))
description_keeps before after name sql types (r1 ∷ r2 ∷ r3 ∷ r4 ∷ rss) mode b run h = absurd run.2.2.2

pub description_adds : (before after : CopyServer) (name sql types : List ℕ) (rss : List (List BackendMessage)) → before.mode ≡ NotCopying → IsBetween before.server → CopyRun before (describing name sql types) rss after
    → AllByRecursion IsNoError (flat_map (λ rs. rs) rss) → HasWidth after.server (name, length (described (flat_map (λ rs. rs) rss)))
description_adds before after name sql types rss mode b run h = let k = description_keeps before after name sql types rss mode b run h in (k.0, k.1, k.3)
