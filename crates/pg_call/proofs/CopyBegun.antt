-- A copy that may begin where a segment may begins a response of some server.
use Rattle.std.proofs.Common.{◌≡◌, ℕ, Bool, true, false, cond, nat_eq, inl, inr, Option, List, [], ◌∷◌, ◌++◌, length, map, Some, None, refl, sym, ap, ◌∙◌, subst, append_assoc, append-nil, flat_map}
use Rattle.std.specs.List.{AllByRecursion}
use Rattle.std.proofs.lemmas.Bool.{eqb-true}
use Rattle.std.proofs.lemmas.List.{map-append}
use Rattle.std.proofs.lemmas.Option.{same_Some}
use Rattle.pg_wire.specs.declared.status.TransactionStatus.TheVariants as statuses
use Rattle.pg_wire.specs.Frontend.{Query, Parse}
use Rattle.pg_wire.specs.Backend.{Values, BackendMessage, backend_frame, HasBackendFrame, RowDescription, DataRow, CommandComplete, ErrorResponse, EmptyQueryResponse, ReadyForQuery, ParseComplete, BindComplete, CloseComplete, CopyInResponse, CopyOutResponse, BackendCopyDone}
use Rattle.pg_wire.specs.Server.{Server, Statement, AreWide, IsFree, StepsBind, fresh_server, statement_at, with_statement}
use Rattle.pg_wire.specs.Acceptor.{Awaits, FirstSegment, FurtherSegment, RowsOf, AfterError, NothingMore, begins, next, accepts}
use Rattle.pg_wire.specs.Copying.{CopyServer, CopyStep, CopyRun, IsCopySegment, NotCopying, QueryCopies, ExecuteCopies, fresh_copy_server}
use Rattle.pg_wire.specs.Refusals.{BeginsCopyResponse, BeginsCopy, MayBeginCopy}
use Rattle.pg_wire.proofs.AcceptorLaws.{and_then_some}
use Rattle.pg_wire.proofs.StepLaws.{found_first}
use Rattle.pg_exchanges.specs.Answering.{running}

-- whole segments
abbrev pub Pieces : List BackendMessage → Type 0
Pieces own = (segments : List (List BackendMessage)) × AllByRecursion IsCopySegment segments × (own ≡ flat_map (λ rs. rs) segments)

-- the rest of a table, and whole segments
abbrev Table : ℕ → List BackendMessage → Type 0
Table width own = (rows : List Values) × (tag : List ℕ) × (rest : List BackendMessage) × AreWide width rows × (own ≡ map DataRow rows ++ CommandComplete tag ∷ rest) × Pieces rest

-- what comes up to where a segment may begin
abbrev Comes : Awaits → List BackendMessage → Type 0
Comes FirstSegment own = Pieces own
Comes FurtherSegment own = Pieces own
Comes (RowsOf width) own = Table width own
Comes AfterError own = ⊥
Comes NothingMore own = ⊥

comes_at : (s t : Awaits) (ms : List BackendMessage) → Some s ≡ Some t → Comes t ms → Comes s ms
comes_at s t ms e h = subst (λ (u : Awaits). Comes u ms) (sym (same_Some s t e)) h

-- a segment begins
began : (m : BackendMessage) (ms : List BackendMessage) (u : Awaits) → begins m ≡ Some u → Comes u ms → Pieces (m ∷ ms)
began (CommandComplete tag) ms u e h =
    let p = comes_at FurtherSegment u ms e h in
    ((CommandComplete tag ∷ []) ∷ p.0, (inl (inl (tag, refl)), p.1), ap (λ (x : List BackendMessage). CommandComplete tag ∷ x) p.2)
began EmptyQueryResponse ms u e h =
    let p = comes_at FurtherSegment u ms e h in
    ((EmptyQueryResponse ∷ []) ∷ p.0, (inl (inr (inr refl)), p.1), ap (λ (x : List BackendMessage). EmptyQueryResponse ∷ x) p.2)
began (RowDescription fields) ms u e h =
    let r = comes_at (RowsOf (length fields)) u ms e h in
    let p = r.5 in (
      (RowDescription fields ∷ map DataRow r.0 ++ CommandComplete r.1 ∷ []) ∷ p.0,
      (inl (inr (inl (fields, r.0, r.1, r.3, refl))), p.1),
      ap (λ (x : List BackendMessage). RowDescription fields ∷ x) (r.4 ∙ ap (λ (x : List BackendMessage). map DataRow r.0 ++ CommandComplete r.1 ∷ x) p.2 ∙ sym (append_assoc (map DataRow r.0) (CommandComplete r.1 ∷ []) (flat_map (λ rs. rs) p.0))),
    )
began (ErrorResponse details) ms u e h = absurd (comes_at AfterError u ms e h)
began _ ms u e h = absurd cc

one_row : (width : ℕ) (values : Values) (ms : List BackendMessage) (u : Awaits) (b : Bool) → nat_eq (length values) width ≡ b → cond b (Some (RowsOf width)) None ≡ Some u → Comes u ms → Table width (DataRow values ∷ ms)
one_row width values ms u true w e h =
    let r = comes_at (RowsOf width) u ms e h in
    (values ∷ r.0, r.1, r.2, (eqb-true _ _ w, r.3), ap (λ (x : List BackendMessage). DataRow values ∷ x) r.4, r.5)
one_row width values ms u false w e h = absurd cc

comes_more : (s : Awaits) (m : BackendMessage) (ms : List BackendMessage) (u : Awaits) → next s m ≡ Some u → Comes u ms → Comes s (m ∷ ms)
comes_more FirstSegment m ms u e h = began m ms u e h
comes_more FurtherSegment (ReadyForQuery status) ms u e h = absurd (comes_at NothingMore u ms e h)
comes_more FurtherSegment m ms u e h = began m ms u e h
comes_more (RowsOf width) (DataRow values) ms u e h = one_row width values ms u (nat_eq (length values) width) refl e h
comes_more (RowsOf width) (CommandComplete tag) ms u e h = ([], tag, ms, tt, refl, comes_at FurtherSegment u ms e h)
comes_more (RowsOf width) (ErrorResponse details) ms u e h = absurd (comes_at AfterError u ms e h)
comes_more (RowsOf width) _ ms u e h = absurd cc
comes_more AfterError (ReadyForQuery status) ms u e h = absurd (comes_at NothingMore u ms e h)
comes_more AfterError _ ms u e h = absurd cc
comes_more NothingMore m ms u e h = absurd cc

abbrev IsStart : Awaits → Type 0
IsStart FirstSegment = Unit {0}
IsStart FurtherSegment = Unit {0}
IsStart _ = ⊥

comes_none : (t : Awaits) → IsStart t → Comes t []
comes_none FirstSegment i = ([], tt, refl)
comes_none FurtherSegment i = ([], tt, refl)
comes_none _ i = absurd i

comes : (own : List BackendMessage) (s t : Awaits) → IsStart t → accepts s own ≡ Some t → Comes s own
comes [] s t i e = comes_at s t [] e (comes_none t i)
comes (m ∷ ms) s t i e =
    let c = and_then_some (next s m) ms t e in
    comes_more s m ms c.0 c.1 (comes ms c.0 t i c.2)

starts : (s : Awaits) (m : BackendMessage) → MayBeginCopy s m → IsStart s
starts FirstSegment m h = tt
starts FurtherSegment m h = tt
starts _ m h = absurd h

-- ---- the response of a server that begins so

-- the whole reply to a Query, of which these are the first messages
pub begins_by : (sql : List ℕ) (own tail : List BackendMessage) (m : BackendMessage) (rs : List BackendMessage) → rs ≡ own ++ m ∷ tail → AllByRecursion HasBackendFrame rs
    → (after : CopyServer) → CopyStep fresh_copy_server (Query sql) rs after → BeginsCopyResponse (Query sql ∷ []) (map backend_frame own ++ backend_frame m ∷ [])
begins_by sql own tail m rs e have after step = record {
  before = fresh_copy_server;
  after = after;
  replies = rs ∷ [];
  between = (refl, (refl, refl));
  run = (after, step, refl);
  replies_have_frames = subst (AllByRecursion HasBackendFrame) (sym (append-nil rs)) have;
  begins = (
    map backend_frame tail,
    append_assoc (map backend_frame own) (backend_frame m ∷ []) (map backend_frame tail)
        ∙ sym (map-append backend_frame own (m ∷ tail))
        ∙ ap (map backend_frame) (sym e)
        ∙ ap (map backend_frame) (sym (append-nil rs)),
  );
}

pub have_more : (own more : List BackendMessage) → AllByRecursion HasBackendFrame own → AllByRecursion HasBackendFrame more → AllByRecursion HasBackendFrame (own ++ more)
have_more [] more h k = k
have_more (m ∷ ms) more h k = (h.0, have_more ms more h.1 k)

pub copy_begins_response : (sql : List ℕ) (own : List BackendMessage) (s : Awaits) (m : BackendMessage) → AllByRecursion HasBackendFrame own → HasBackendFrame m → accepts FirstSegment own ≡ Some s → MayBeginCopy s m
    → BeginsCopyResponse (Query sql ∷ []) (map backend_frame own ++ backend_frame m ∷ [])
copy_begins_response sql own s m have h e may = by m h (copies s m may) (comes own FirstSegment s (starts s m may) e)
  where
    copies : (s : Awaits) (m : BackendMessage) → MayBeginCopy s m → BeginsCopy m
    copies FirstSegment m h = h
    copies FurtherSegment m h = h
    copies _ m h = absurd h

    by : (m : BackendMessage) → HasBackendFrame m → BeginsCopy m → Pieces own → BeginsCopyResponse (Query sql ∷ []) (map backend_frame own ++ backend_frame m ∷ [])
    by (CopyInResponse format columns) h c p = begins_by sql own [] (CopyInResponse format columns) (own ++ CopyInResponse format columns ∷ []) refl (have_more own (CopyInResponse format columns ∷ []) have (h, tt))
        (record { server = record fresh_server { unnamed = None; portal = None }; mode = QueryCopies })
        (inr ((p.0, CopyInResponse format columns, p.1, (format, columns, refl), ap (λ (x : List BackendMessage). x ++ CopyInResponse format columns ∷ []) p.2), refl))
    by (CopyOutResponse format columns) h c p =
        let tail = BackendCopyDone ∷ CommandComplete [] ∷ ReadyForQuery statuses.Idle ∷ [] in
        let last = CopyOutResponse format columns ∷ BackendCopyDone ∷ CommandComplete [] ∷ [] in
        begins_by sql own tail (CopyOutResponse format columns) (own ++ CopyOutResponse format columns ∷ tail) refl (have_more own (CopyOutResponse format columns ∷ tail) have (h, (tt, (refl, (tt, tt)))))
        (record { server = record fresh_server { unnamed = None; portal = None }; mode = NotCopying })
        (inl (record { before = p.0; last = last; status = statuses.Idle; whole = p.1; ends = inl (inr (format, columns, [], [], refl)); are = ap (λ (x : List BackendMessage). x ++ CopyOutResponse format columns ∷ tail) p.2 ∙ sym (append_assoc (flat_map (λ rs. rs) p.0) last (ReadyForQuery statuses.Idle ∷ [])) }, refl))
    by _ h c p = absurd c

-- ---- a portal that copies

-- a statement without columns
abbrev made : Statement
made = record { sql = []; fields = [] }

-- a server that has it without a name, and under this one
abbrev prepared : List ℕ → Server
prepared name = record fresh_server { named = (name, made) ∷ []; unnamed = Some made }

abbrev bound_server : List ℕ → Server
bound_server name = record (prepared name) { portal = Some [] }

binds_it : (name : List ℕ) → StepsBind (prepared name) (statement_at (prepared name) name) (BindComplete ∷ []) (bound_server name)
binds_it [] = inl (refl, refl)
binds_it (b ∷ bs) = rw (found_first (b ∷ bs) made []) (inl (refl, refl))

run_begins : (name : List ℕ) (values : List (Option (List ℕ))) (m : BackendMessage) (tail : List BackendMessage) (rss : List (List BackendMessage)) (after : CopyServer) → CopyRun (record { server = prepared name; mode = NotCopying }) (running name values 0) rss after
    → flat_map (λ rs. rs) rss ≡ BindComplete ∷ m ∷ tail → AllByRecursion HasBackendFrame (BindComplete ∷ m ∷ tail) → BeginsCopyResponse (running name values 0) (backend_frame BindComplete ∷ backend_frame m ∷ [])
run_begins name values m tail rss after run e have = record {
  before = record { server = prepared name; mode = NotCopying };
  after = after;
  replies = rss;
  between = (refl, (refl, refl));
  run = run;
  replies_have_frames = subst (AllByRecursion HasBackendFrame) (sym e) have;
  begins = (map backend_frame tail, ap (map backend_frame) (sym e));
}

pub copy_begins_run : (name : List ℕ) (values : List (Option (List ℕ))) (m : BackendMessage) → HasBackendFrame m → MayBeginCopy FirstSegment m → BeginsCopyResponse (running name values 0) (backend_frame BindComplete ∷ backend_frame m ∷ [])
copy_begins_run name values (CopyInResponse format columns) h c =
    let m = CopyInResponse format columns in
    let bound = bound_server name in
    let failed : Server = record bound { skip = true } in
    run_begins name values m (ErrorResponse [] ∷ ReadyForQuery statuses.Transaction ∷ []) ((BindComplete ∷ []) ∷ (m ∷ []) ∷ (ErrorResponse [] ∷ []) ∷ (ReadyForQuery statuses.Transaction ∷ []) ∷ []) (record { server = bound; mode = NotCopying }) (
      record { server = bound; mode = NotCopying },
      (bound, binds_it name, refl),
      (
        record { server = bound; mode = ExecuteCopies },
        inr (inr (m, (format, columns, refl), refl, refl)),
        (
          record { server = failed; mode = NotCopying },
          ([], refl, refl),
          (record { server = bound; mode = NotCopying }, (bound, (statuses.Transaction, refl, inl refl), refl), refl),
        ),
      ),
    ) refl (tt, (h, (tt, (tt, tt))))
copy_begins_run name values (CopyOutResponse format columns) h c =
    let m = CopyOutResponse format columns in
    let bound = bound_server name in
    let last : Server = record bound { portal = None } in
    run_begins name values m (BackendCopyDone ∷ CommandComplete [] ∷ CloseComplete ∷ ReadyForQuery statuses.Transaction ∷ []) ((BindComplete ∷ []) ∷ (m ∷ BackendCopyDone ∷ CommandComplete [] ∷ []) ∷ (CloseComplete ∷ []) ∷ (ReadyForQuery statuses.Transaction ∷ []) ∷ []) (record { server = last; mode = NotCopying }) (
      record { server = bound; mode = NotCopying },
      (bound, binds_it name, refl),
      (
        record { server = bound; mode = NotCopying },
        inl (inr (format, columns, [], [], refl), refl),
        (
          record { server = last; mode = NotCopying },
          (last, inl (refl, refl), refl),
          (record { server = last; mode = NotCopying }, (last, (statuses.Transaction, refl, inl refl), refl), refl),
        ),
      ),
    ) refl (tt, (h, (tt, (refl, (tt, (tt, tt))))))
copy_begins_run name values _ h c = absurd c

-- ---- a statement that is prepared once more, and copies

abbrev made_by : List ℕ → Statement
made_by sql = record { sql = sql; fields = [] }

-- a server that has prepared it: one of its names stands for this statement
abbrev stands : List (List ℕ × Statement) → Option Statement → Server
stands named unnamed = record fresh_server { named = named; unnamed = unnamed }

abbrev stands_bound : List (List ℕ × Statement) → Option Statement → Server
stands_bound named unnamed = record (stands named unnamed) { portal = Some [] }

parsed_begins : (name sql types : List ℕ) (values : List (Option (List ℕ))) (m : BackendMessage) (tail : List BackendMessage) (rss : List (List BackendMessage)) (after : CopyServer) → CopyRun fresh_copy_server (Parse name sql types ∷ running name values 0) rss after
    → flat_map (λ rs. rs) rss ≡ ParseComplete ∷ BindComplete ∷ m ∷ tail → AllByRecursion HasBackendFrame (ParseComplete ∷ BindComplete ∷ m ∷ tail)
    → BeginsCopyResponse (Parse name sql types ∷ running name values 0) (backend_frame ParseComplete ∷ backend_frame BindComplete ∷ backend_frame m ∷ [])
parsed_begins name sql types values m tail rss after run e have = record {
  before = fresh_copy_server;
  after = after;
  replies = rss;
  between = (refl, (refl, refl));
  run = run;
  replies_have_frames = subst (AllByRecursion HasBackendFrame) (sym e) have;
  begins = (map backend_frame tail, ap (map backend_frame) (sym e));
}

copies_at : (name sql types : List ℕ) (values : List (Option (List ℕ))) (named : List (List ℕ × Statement)) (unnamed : Option Statement) (m : BackendMessage) → HasBackendFrame m → MayBeginCopy FirstSegment m
    → IsFree fresh_server name → stands named unnamed ≡ with_statement fresh_server name (made_by sql) → StepsBind (stands named unnamed) (statement_at (stands named unnamed) name) (BindComplete ∷ []) (stands_bound named unnamed)
    → BeginsCopyResponse (Parse name sql types ∷ running name values 0) (backend_frame ParseComplete ∷ backend_frame BindComplete ∷ backend_frame m ∷ [])
copies_at name sql types values named unnamed (CopyInResponse format columns) h c free is binds =
    let m = CopyInResponse format columns in
    let bound = stands_bound named unnamed in
    let failed : Server = record bound { skip = true } in
    parsed_begins name sql types values m (ErrorResponse [] ∷ ReadyForQuery statuses.Transaction ∷ []) ((ParseComplete ∷ []) ∷ (BindComplete ∷ []) ∷ (m ∷ []) ∷ (ErrorResponse [] ∷ []) ∷ (ReadyForQuery statuses.Transaction ∷ []) ∷ []) (record { server = bound; mode = NotCopying }) (
      record { server = stands named unnamed; mode = NotCopying },
      (stands named unnamed, inl (free, [], refl, is), refl),
      (
        record { server = bound; mode = NotCopying },
        (bound, binds, refl),
        (
          record { server = bound; mode = ExecuteCopies },
          inr (inr (m, (format, columns, refl), refl, refl)),
          (
            record { server = failed; mode = NotCopying },
            ([], refl, refl),
            (record { server = bound; mode = NotCopying }, (bound, (statuses.Transaction, refl, inl refl), refl), refl),
          ),
        ),
      ),
    ) refl (tt, (tt, (h, (tt, (tt, tt)))))
copies_at name sql types values named unnamed (CopyOutResponse format columns) h c free is binds =
    let m = CopyOutResponse format columns in
    let bound = stands_bound named unnamed in
    let last : Server = record bound { portal = None } in
    parsed_begins name sql types values m (BackendCopyDone ∷ CommandComplete [] ∷ CloseComplete ∷ ReadyForQuery statuses.Transaction ∷ []) ((ParseComplete ∷ []) ∷ (BindComplete ∷ []) ∷ (m ∷ BackendCopyDone ∷ CommandComplete [] ∷ []) ∷ (CloseComplete ∷ []) ∷ (ReadyForQuery statuses.Transaction ∷ []) ∷ []) (record { server = last; mode = NotCopying }) (
      record { server = stands named unnamed; mode = NotCopying },
      (stands named unnamed, inl (free, [], refl, is), refl),
      (
        record { server = bound; mode = NotCopying },
        (bound, binds, refl),
        (
          record { server = bound; mode = NotCopying },
          inl (inr (format, columns, [], [], refl), refl),
          (
            record { server = last; mode = NotCopying },
            (last, inl (refl, refl), refl),
            (record { server = last; mode = NotCopying }, (last, (statuses.Transaction, refl, inl refl), refl), refl),
          ),
        ),
      ),
    ) refl (tt, (tt, (h, (tt, (refl, (tt, (tt, tt)))))))
copies_at name sql types values named unnamed _ h c free is binds = absurd c

pub copy_begins_parsed : (name sql types : List ℕ) (values : List (Option (List ℕ))) (m : BackendMessage) → HasBackendFrame m → MayBeginCopy FirstSegment m
    → BeginsCopyResponse (Parse name sql types ∷ running name values 0) (backend_frame ParseComplete ∷ backend_frame BindComplete ∷ backend_frame m ∷ [])
copy_begins_parsed [] sql types values m h c = copies_at [] sql types values [] (Some (made_by sql)) m h c tt refl (inl (refl, refl))
copy_begins_parsed (b ∷ bs) sql types values m h c = copies_at (b ∷ bs) sql types values ((b ∷ bs, made_by sql) ∷ []) None m h c refl refl (rw (found_first (b ∷ bs) (made_by sql) []) (inl (refl, refl)))
