-- Where nothing is copied, a server that may copy replies as one that never does.
use Rattle.std.proofs.Common.{◌≡◌, ◌≢◌, ℕ, Bool, true, false, cond, ◌||◌, List, [], ◌∷◌, ◌++◌, length, Option, Some, None, refl, sym, ap, ◌∙◌, subst, flat_map, ◌⊎◌, inl, inr, ⊎_elim}
use Rattle.std.specs.List.{AllByRecursion}
use Rattle.pg_wire.specs.Frontend.{FrontendMessage, Query, Execute}
use Rattle.pg_wire.specs.Backend.{FieldDescription, BackendMessage, ReadyForQuery, CommandComplete, ErrorResponse, CopyOutResponse}
use Rattle.pg_wire.specs.Server.{Server, ServerStep, Steps, StepsExecute, ServerRun, IsSegment, EndsInError, AreSegments, IsQueryResponse, IsPortalResult, portal_at}
use Rattle.pg_wire.specs.Copying.{CopyServer, CopyMode, NotCopying, IsCopyOut, IsCopySegment, IsPortalCopy, PausesForCopy, AnswersQuery, StepsCopyExecute, StepsOutsideCopy, CopyStep, CopyRun, Leaves}
use Rattle.pg_wire.specs.Pieces.{IsNoCopy}

abbrev AreNoCopies : List BackendMessage → Type 0
AreNoCopies rs = AllByRecursion IsNoCopy rs

front_all : (xs ys : List BackendMessage) → AreNoCopies (xs ++ ys) → AreNoCopies xs
front_all [] ys h = tt
front_all (x ∷ xs) ys h = (h.0, front_all xs ys h.1)

back_all : (xs ys : List BackendMessage) → AreNoCopies (xs ++ ys) → AreNoCopies ys
back_all [] ys h = h
back_all (x ∷ xs) ys h = back_all xs ys h.1

-- ---- segments and results

plain_segment : (rs : List BackendMessage) → AreNoCopies rs → IsCopySegment rs → IsSegment rs
plain_segment rs h (inl s) = s
plain_segment rs h (inr c) = absurd (subst AreNoCopies c.4 h).0

plain_result : (width : ℕ) (rs : List BackendMessage) → AreNoCopies rs → IsPortalCopy width rs → IsPortalResult width rs
plain_result width rs h (inl p) = p
plain_result width rs h (inr c) = absurd (subst AreNoCopies c.4 h).0

-- a beginning without copies, of something that is no copy, or of nothing
plain_front : (front missing : List BackendMessage) → AreNoCopies front → IsCopyOut (front ++ missing) → front ≡ []
plain_front [] missing h c = refl
plain_front (x ∷ xs) missing h c =
    let e = c.4 in
    let head : x ≡ CopyOutResponse c.0 c.1 = cc in
    absurd (subst IsNoCopy head h.0)

plain_broken : (P : List BackendMessage → Type 0) (some : List BackendMessage) → P some → (some ≢ []) → (rs : List BackendMessage) → AreNoCopies rs → EndsInError (λ r. P r ⊎ IsCopyOut r) rs → EndsInError P rs
plain_broken P some p n rs h b = go b.3
  where
    go : P (b.0 ++ b.1) ⊎ IsCopyOut (b.0 ++ b.1) → EndsInError P rs
    go (inl q) = (b.0, b.1, b.2, q, b.4, b.5)
    go (inr c) =
        let none : b.0 ≡ [] = plain_front b.0 b.1 (front_all b.0 (ErrorResponse b.2 ∷ []) (subst AreNoCopies b.5 h)) c in
        ([], some, b.2, p, n, b.5 ∙ ap (λ (f : List BackendMessage). f ++ ErrorResponse b.2 ∷ []) none)

plain_segments : (rss : List (List BackendMessage)) → AreNoCopies (flat_map (λ rs. rs) rss) → AllByRecursion IsCopySegment rss → AllByRecursion IsSegment rss
plain_segments [] h k = tt
plain_segments (rs ∷ rss) h k = (plain_segment rs (front_all rs _ h) k.0, plain_segments rss (back_all rs _ h) k.1)

plain_query : (rs : List BackendMessage) → AreNoCopies rs → AreSegments IsCopySegment rs → IsQueryResponse rs
plain_query rs h s =
    let all = subst AreNoCopies s.are h in
    let both = front_all (flat_map (λ t. t) s.before ++ s.last) (ReadyForQuery s.status ∷ []) all in
    let last = back_all (flat_map (λ t. t) s.before) s.last both in
    record {
      before = s.before;
      last = s.last;
      status = s.status;
      whole = plain_segments s.before (front_all (flat_map (λ t. t) s.before) s.last both) s.whole;
      ends = ⊎_elim
          (λ (k : IsCopySegment s.last). inl (plain_segment s.last last k))
          (λ (k : EndsInError IsCopySegment s.last). inr (plain_broken IsSegment (CommandComplete [] ∷ []) (inl ([], refl)) (λ n. cc) s.last last k))
          s.ends;
      are = s.are;
    }

-- ---- steps

-- the server behind a step, where none is copying
abbrev IsPlainStep : Server → FrontendMessage → List BackendMessage → CopyServer → Type 0
IsPlainStep old message rs new = Steps old message rs new.server × (new.mode ≡ NotCopying)

paused : (rs : List BackendMessage) → AreNoCopies rs → PausesForCopy rs → ⊥
paused rs h p =
    let all = subst AreNoCopies p.4 h in
    let last = back_all (flat_map (λ t. t) p.0) (p.1 ∷ []) all in
    let is = p.3 in
    subst IsNoCopy is.2 last.0

asked : (server : Server) (rs : List BackendMessage) (new : CopyServer) → AreNoCopies rs → AnswersQuery server rs new → IsQueryResponse rs × (new ≡ record { server = server; mode = NotCopying })
asked server rs new h (inl q) = (plain_query rs h q.0, q.1)
asked server rs new h (inr p) = absurd (paused rs h p.0)

executed : (old : Server) (o : Option (List FieldDescription)) (rs : List BackendMessage) (new : CopyServer) → AreNoCopies rs → StepsCopyExecute old o rs new → StepsExecute old o rs new.server × (new.mode ≡ NotCopying)
executed old None rs new h k = ((k.0, k.1, ap (λ (m : CopyServer). m.server) k.2), ap (λ (m : CopyServer). m.mode) k.2)
executed old (Some fields) rs new h (inl k) = (inl (plain_result (length fields) rs h k.0, ap (λ (m : CopyServer). m.server) k.1), ap (λ (m : CopyServer). m.mode) k.1)
executed old (Some fields) rs new h (inr (inl k)) = (
  inr (plain_broken (IsPortalResult (length fields)) (CommandComplete [] ∷ []) ([], tt, inl ([], refl)) (λ n. cc) rs h k.0, ap (λ (m : CopyServer). m.server) k.1),
  ap (λ (m : CopyServer). m.mode) k.1,
)
executed old (Some fields) rs new h (inr (inr k)) =
    let is = k.1 in
    let all = subst AreNoCopies k.2 h in
    absurd (subst IsNoCopy is.2 all.0)

-- a step of the server that never copies, and no copy behind it
abbrev IsPlain : Server → FrontendMessage → List BackendMessage → CopyServer → Type 0
IsPlain old message rs new = ServerStep old message rs new.server × (new.mode ≡ NotCopying)

left : (old : Server) (message : FrontendMessage) (rs : List BackendMessage) (new : CopyServer) → (next : Server) × ServerStep old message rs next × Leaves next NotCopying new → IsPlain old message rs new
left old message rs new h = (subst (ServerStep old message rs) (sym (ap (λ (m : CopyServer). m.server) h.2)) h.1, ap (λ (m : CopyServer). m.mode) h.2)

plainly : (over skip : Bool) (A B C : Type 0) → over ≡ false → skip ≡ false → C → cond over A (cond skip B C)
plainly true skip A B C e k c = absurd cc
plainly false true A B C e k c = absurd cc
plainly false false A B C e k c = c

outside : (old : Server) (message : FrontendMessage) (rs : List BackendMessage) (new : CopyServer) → AreNoCopies rs → old.over ≡ false → old.skip ≡ false → StepsOutsideCopy old message rs new → IsPlain old message rs new
outside old (Query sql) rs new h e k s =
    let q = asked (record old { unnamed = None; portal = None }) rs new h s in
    (plainly old.over old.skip _ _ _ e k (q.0, ap (λ (m : CopyServer). m.server) q.1), ap (λ (m : CopyServer). m.mode) q.1)
outside old (Execute name limit) rs new h e k s =
    let q = executed old (portal_at old name) rs new h s in
    (plainly old.over old.skip _ _ _ e k q.0, q.1)
outside old message rs new h e k s = left old message rs new s

either : (over skip : Bool) (A B D : Type 0) → (A → D) → (over ≡ false → skip ≡ false → B → D) → cond (over || skip) A B → D
either true skip A B D a b h = a h
either false true A B D a b h = a h
either false false A B D a b h = b refl refl h

-- a server where no copy is going on
abbrev plain : Server → CopyServer
plain server = record { server = server; mode = NotCopying }

step_plain : (old : Server) (message : FrontendMessage) (rs : List BackendMessage) (new : CopyServer) → AreNoCopies rs → CopyStep (plain old) message rs new → IsPlain old message rs new
step_plain old message rs new h step = either old.over old.skip _ _ _ (left old message rs new) (outside old message rs new h) step

abbrev made : Server → CopyMode → CopyServer
made server mode = record { server = server; mode = mode }

is_plain : (new : CopyServer) → new.mode ≡ NotCopying → new ≡ plain new.server
is_plain new e = ap (made new.server) e

pub run_plain : (old : Server) (new : CopyServer) (messages : List FrontendMessage) (rss : List (List BackendMessage)) → CopyRun (plain old) messages rss new → AreNoCopies (flat_map (λ rs. rs) rss) → ServerRun old messages rss new.server × (new.mode ≡ NotCopying)
run_plain old new [] [] run h = (ap (λ (m : CopyServer). m.server) run, ap (λ (m : CopyServer). m.mode) run)
run_plain old new [] (rs ∷ rss) run h = absurd run
run_plain old new (message ∷ messages) [] run h = absurd run
run_plain old new (message ∷ messages) (rs ∷ rss) run h =
    let one = step_plain old message rs run.0 (front_all rs _ h) run.1 in
    let further = run_plain run.0.server new messages rss (subst (λ (m : CopyServer). CopyRun m messages rss new) (is_plain run.0 one.1) run.2) (back_all rs _ h) in
    ((run.0.server, one.0, further.0), further.1)
