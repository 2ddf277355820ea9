-- What may come in the response to a copy from the client, whatever data was sent: a message that may not come there begins no response of any server, and each
-- other reply that is lawful there begins one.
use Rattle.std.proofs.Common.{◌≡◌, ℕ, ℤ, Bool, true, false, List, [], ◌∷◌, ◌++◌, map, Option, Some, None, refl, sym, ap, ◌∙◌, subst, append_assoc, append-nil, flat_map, inl, inr, option_and_then}
use Rattle.std.specs.List.{AllByRecursion}
use Rattle.std.proofs.lemmas.Option.{same_Some}
use Rattle.std.proofs.lemmas.List.{map-append, same_from_push}
use Rattle.pg_wire.specs.declared.status.TransactionStatus.TheVariants as statuses
use Rattle.pg_wire.specs.Frame.{Frame}
use Rattle.pg_wire.specs.Frontend.{FrontendMessage, Query, CopyData as SendsData, CopyDone}
use Rattle.pg_wire.specs.Backend.{BackendMessage, backend_frame, HasBackendFrame, ReadyForQuery, RowDescription, CommandComplete, ErrorResponse, EmptyQueryResponse, CopyInResponse, CopyOutResponse, BackendCopyDone}
use Rattle.pg_wire.specs.Server.{Server, fresh_server}
use Rattle.pg_wire.specs.Groups.{IsBetween}
use Rattle.pg_wire.specs.Acceptor.{FirstSegment}
use Rattle.pg_wire.specs.Copying.{CopyMode, CopyServer, CopyRun, CopyStep, NotCopying, QueryCopies, AnswersQuery, StepsInMode, StepsInQueryCopy, fresh_copy_server}
use Rattle.pg_wire.specs.Refusals.{BeginsCopyResponse}
use Rattle.pg_wire.proofs.CopyAcceptorLaws.{Expects, Plain, follows, takes, answer_taken}
use Rattle.pg_wire.proofs.OpenCopyLaws.{data_is_silent}
use Rattle.pg_wire.proofs.RefusalLaws.{split}
use Rattle.pg_wire.proofs.Tests.{where_neither}
use Rattle.pg_call.specs.declared.judging.Part.{Part}
use Rattle.pg_call.specs.declared.judging.Part.TheVariants.{Copied, Opening, Feeding}
use Rattle.pg_call.specs.declared.feed.Feed.{Feed}
use Rattle.pg_call.specs.Requests.{ended_by, feeding}
use Rattle.pg_call.specs.Replies.{part_after, begins_segment, may_stray, MayNotCome}

abbrev replied : List (List BackendMessage) → List BackendMessage
replied rss = flat_map (λ rs. rs) rss

-- ---- the data is not answered

behind_data : (pieces : List (List ℕ)) (ended : List FrontendMessage) (old new : CopyServer) (rss : List (List BackendMessage)) → CopyRun old (map SendsData pieces ++ ended) rss new
    → (more : List (List BackendMessage)) × CopyRun old ended more new × (replied rss ≡ replied more)
behind_data [] ended old new rss run = (rss, run, refl)
behind_data (p ∷ ps) ended old new [] run = absurd run
behind_data (p ∷ ps) ended old new (rs ∷ rss) run =
    let s = data_is_silent old run.0 p rs run.1 in
    let r = behind_data ps ended run.0 new rss run.2 in
    (r.0, subst (λ (m : CopyServer). CopyRun m ended r.0 new) s.1 r.1, ap (λ (t : List BackendMessage). t ++ replied rss) s.0 ∙ r.2)

queried : (old mid : CopyServer) (sql : List ℕ) (rs : List BackendMessage) → old.mode ≡ NotCopying → IsBetween old.server → CopyStep old (Query sql) rs mid → AnswersQuery (record old.server { unnamed = None; portal = None }) rs mid
queried old mid sql rs e b step = subst (λ (mode : CopyMode). StepsInMode old.server mode (Query sql) rs mid) e (where_neither old.server.over old.server.skip _ _ b.0 b.1 step)

-- what a server replies to all of it: to the Query, and to the end of the data
abbrev Ends : CopyServer → Bool → List BackendMessage → Type 0
Ends mid false tail = tail ≡ []
Ends mid true tail = (after : CopyServer) × CopyStep mid CopyDone tail after

ended_run : (mid after : CopyServer) (ended : Bool) (rss : List (List BackendMessage)) → CopyRun mid (ended_by ended) rss after → Ends mid ended (replied rss)
ended_run mid after false [] run = refl
ended_run mid after false (rs ∷ rss) run = absurd run
ended_run mid after true [] run = absurd run
ended_run mid after true (rs ∷ []) run = (after, subst (λ (t : List BackendMessage). CopyStep mid CopyDone t after) (sym (append-nil rs)) (subst (λ (m : CopyServer). CopyStep mid CopyDone rs m) (sym run.2) run.1))
ended_run mid after true (rs ∷ more ∷ rss) run = absurd run.2

record Answers (feed : Feed) (all : List BackendMessage) : Type 0 where
  server : Server
  between : IsBetween server
  mid : CopyServer
  first : List BackendMessage
  tail : List BackendMessage
  answers : AnswersQuery (record server { unnamed = None; portal = None }) first mid
  ends : Ends mid feed.is_ended tail
  all_is : all ≡ first ++ tail

answers_by : (feed : Feed) (before after : CopyServer) (rss : List (List BackendMessage)) → before.mode ≡ NotCopying → IsBetween before.server → CopyRun before (feeding feed) rss after → Answers feed (replied rss)
answers_by feed before after [] e b run = absurd run
answers_by feed before after (rs ∷ rss) e b run =
    let d = behind_data feed.pieces (ended_by feed.is_ended) run.0 after rss run.2 in
    record {
      server = before.server;
      between = b;
      mid = run.0;
      first = rs;
      tail = replied d.0;
      answers = queried before run.0 feed.query.sql rs e b run.1;
      ends = ended_run run.0 after feed.is_ended d.0 d.1;
      all_is = ap (λ (t : List BackendMessage). rs ++ t) d.2;
    }

-- ---- what a Query is answered by

-- no segment begins by it
abbrev StartsNone : BackendMessage → Type 0
StartsNone (ErrorResponse details) = ⊥
StartsNone m = begins_segment m ≡ false

start_refused : (m : BackendMessage) → StartsNone m → follows (Plain FirstSegment) m ≡ None
start_refused (ErrorResponse details) n = absurd n
start_refused (RowDescription fields) n = absurd cc
start_refused (CommandComplete tag) n = absurd cc
start_refused EmptyQueryResponse n = absurd cc
start_refused (CopyInResponse format columns) n = absurd cc
start_refused (CopyOutResponse format columns) n = absurd cc
start_refused _ n = refl

nothing_follows : (m : BackendMessage) (rest : List BackendMessage) → StartsNone m → takes (Plain FirstSegment) (m ∷ rest) ≡ None
nothing_follows m rest n = ap (λ (o : Option Expects). option_and_then (λ y. takes y rest) o) (start_refused m n)

never_starts : (server : Server) (m : BackendMessage) (rest : List BackendMessage) (new : CopyServer) → StartsNone m → AnswersQuery server (m ∷ rest) new → ⊥
never_starts server m rest new n a =
    let taken = (answer_taken server (m ∷ rest) new a).1 in
    let none = nothing_follows m rest n in
    absurd cc

not_pushed : {A : Type 0} (xs : List A) (x : A) → xs ++ x ∷ [] ≡ [] → ⊥
not_pushed [] x e = absurd cc
not_pushed (y ∷ xs) x e = absurd cc

answers_some : (server : Server) (new : CopyServer) → AnswersQuery server [] new → ⊥
answers_some server new (inl h) = not_pushed (flat_map (λ rs. rs) h.0.before ++ h.0.last) (ReadyForQuery h.0.status) (sym h.0.are)
answers_some server new (inr h) = not_pushed (flat_map (λ segment. segment) h.0.0) h.0.1 (sym h.0.4)

-- behind CopyInResponse nothing more comes to the Query, and the copy is open
opens_alone : (server : Server) (format : ℤ) (columns : List ℤ) (xs : List BackendMessage) (new : CopyServer) → AnswersQuery server (CopyInResponse format columns ∷ xs) new → (xs ≡ []) × (new ≡ record { server = server; mode = QueryCopies })
opens_alone server format columns (x ∷ xs) new a = let taken = (answer_taken server (CopyInResponse format columns ∷ x ∷ xs) new a).1 in absurd cc
opens_alone server format columns [] new (inr h) = (refl, h.1)
opens_alone server format columns [] new (inl h) =
    let same = same_from_push [] (flat_map (λ rs. rs) h.0.before ++ h.0.last) (CopyInResponse format columns) (ReadyForQuery h.0.status) h.0.are in
    let head : CopyInResponse format columns ≡ ReadyForQuery h.0.status = same.1 in
    absurd cc

-- ---- what may not come is refused

first_of : (feed : Feed) (m : BackendMessage) (rest : List BackendMessage) → StartsNone m → Answers feed (m ∷ rest) → ⊥
first_of feed m rest n a = by a.first a.answers a.all_is
  where
    by : (first : List BackendMessage) → AnswersQuery (record a.server { unnamed = None; portal = None }) first a.mid → m ∷ rest ≡ first ++ a.tail → ⊥
    by [] h e = answers_some _ a.mid h
    by (x ∷ xs) h e =
        let head : x ≡ m = cc in
        never_starts _ x xs a.mid (subst StartsNone (sym head) n) h

-- a server whose copy from the client is open
abbrev opened : Server → CopyServer
opened server = record { server = record server { unnamed = None; portal = None }; mode = QueryCopies }

-- behind CopyInResponse comes what the end of the data is answered by
behind_opening : (feed : Feed) (format : ℤ) (columns : List ℤ) (rest : List BackendMessage) (a : Answers feed (CopyInResponse format columns ∷ rest)) → Ends (opened a.server) feed.is_ended rest
behind_opening feed format columns rest a = by a.first a.answers a.all_is
  where
    by : (first : List BackendMessage) → AnswersQuery (record a.server { unnamed = None; portal = None }) first a.mid → CopyInResponse format columns ∷ rest ≡ first ++ a.tail → Ends (opened a.server) feed.is_ended rest
    by [] h e = absurd (answers_some _ a.mid h)
    by (x ∷ xs) h e =
        let head : x ≡ CopyInResponse format columns = cc in
        let tails : rest ≡ xs ++ a.tail = cc in
        let alone = opens_alone (record a.server { unnamed = None; portal = None }) format columns xs a.mid (subst (λ (y : BackendMessage). AnswersQuery (record a.server { unnamed = None; portal = None }) (y ∷ xs) a.mid) head h) in
        let same : rest ≡ a.tail = tails ∙ ap (λ (t : List BackendMessage). t ++ a.tail) alone.0 in
        subst (λ (t : List BackendMessage). Ends (opened a.server) feed.is_ended t) (sym same) (subst (λ (s : CopyServer). Ends s feed.is_ended a.tail) alone.1 a.ends)

-- and that is the completion, and then further segments or the end, or an error
abbrev Completes : Server → List BackendMessage → Type 0
Completes server rest = (after : CopyServer) × StepsInQueryCopy server CopyDone rest after

completes : (server : Server) (rest : List BackendMessage) → IsBetween server → Ends (opened server) true rest → Completes (record server { unnamed = None; portal = None }) rest
completes server rest b h = (h.0, where_neither server.over server.skip _ _ b.0 b.1 h.1)

no_completion : (server : Server) (m : BackendMessage) (rest : List BackendMessage) → MayNotCome (Feeding true) m → Completes server (m ∷ rest) → ⊥
no_completion server m rest n (after, inl (tag, more, is, then_)) =
    let head : m ≡ CommandComplete tag = cc in
    refused (subst (MayNotCome (Feeding true)) head n)
  where
    refused : MayNotCome (Feeding true) (CommandComplete tag) → ⊥
    refused k = absurd cc
no_completion server m rest n (after, inr (details, status, is, l)) =
    let head : m ≡ ErrorResponse details = cc in
    subst (MayNotCome (Feeding true)) head n

no_further : (server : Server) (tag : List ℕ) (m : BackendMessage) (rest : List BackendMessage) → MayNotCome Copied m → Completes server (CommandComplete tag ∷ m ∷ rest) → ⊥
no_further server tag m rest n (after, inl (t, more, is, inl (status, ready, l))) =
    let tails : more ≡ m ∷ rest = cc in
    let head : m ≡ ReadyForQuery status = cc in
    refused (subst (MayNotCome Copied) head n)
  where
    refused : MayNotCome Copied (ReadyForQuery status) → ⊥
    refused k = absurd cc
no_further server tag m rest n (after, inl (t, more, is, inr answers)) =
    let tails : more ≡ m ∷ rest = cc in
    never_starts server m rest after (starts m n) (subst (λ (x : List BackendMessage). AnswersQuery server x after) tails answers)
  where
    starts : (m : BackendMessage) → MayNotCome Copied m → StartsNone m
    starts (ErrorResponse details) k = k
    starts (ReadyForQuery status) k = absurd cc
    starts (RowDescription fields) k = absurd cc
    starts (CommandComplete tag) k = absurd cc
    starts EmptyQueryResponse k = absurd cc
    starts (CopyInResponse format columns) k = absurd cc
    starts (CopyOutResponse format columns) k = absurd cc
    starts _ k = refl
no_further server tag m rest n (after, inr (details, status, is, l)) = absurd cc

opening_starts : (ended : Bool) (m : BackendMessage) → MayNotCome (Opening ended) m → StartsNone m
opening_starts ended (ErrorResponse details) k = k
opening_starts ended (ReadyForQuery status) k = refl
opening_starts ended (RowDescription fields) k = absurd cc
opening_starts ended (CommandComplete tag) k = absurd cc
opening_starts ended EmptyQueryResponse k = absurd cc
opening_starts ended (CopyInResponse format columns) k = absurd cc
opening_starts ended (CopyOutResponse format columns) k = absurd cc
opening_starts ended _ k = refl

-- what has come where this is awaited
abbrev Came : Bool → Part → List BackendMessage → Type 0
Came ended (Opening e) own = (own ≡ []) × (e ≡ ended)
Came ended (Feeding e) own = (format : ℤ) × (columns : List ℤ) × (own ≡ CopyInResponse format columns ∷ []) × (e ≡ ended)
Came ended Copied own = (format : ℤ) × (columns : List ℤ) × (tag : List ℕ) × (own ≡ CopyInResponse format columns ∷ CommandComplete tag ∷ []) × (ended ≡ true)
Came ended _ own = ⊥

pub came : (ended : Bool) (part : Part) (own : List BackendMessage) → part_after (Opening ended) own ≡ Some part → Came ended part own
came ended part [] e = subst (λ (p : Part). Came ended p []) (same_Some (Opening ended) part e) (refl, refl)
came ended part (CopyInResponse format columns ∷ []) e = subst (λ (p : Part). Came ended p (CopyInResponse format columns ∷ [])) (same_Some (Feeding ended) part e) (format, columns, refl, refl)
came true part (CopyInResponse format columns ∷ CommandComplete tag ∷ []) e = subst (λ (p : Part). Came true p (CopyInResponse format columns ∷ CommandComplete tag ∷ [])) (same_Some Copied part e) (format, columns, tag, refl, refl)
came true part (CopyInResponse format columns ∷ CommandComplete tag ∷ m ∷ ms) e = absurd cc
came false part (CopyInResponse format columns ∷ m ∷ ms) e = absurd cc
came true part (CopyInResponse format columns ∷ _ ∷ ms) e = absurd cc
came ended part (_ ∷ ms) e = absurd cc

part_refused : (feed : Feed) (own rest : List BackendMessage) (part : Part) (m : BackendMessage) → Came feed.is_ended part own → MayNotCome part m → Answers feed (own ++ m ∷ rest) → ⊥
part_refused feed own rest (Opening ended) m c n a = first_of feed m rest (opening_starts ended m n) (subst (λ (t : List BackendMessage). Answers feed (t ++ m ∷ rest)) c.0 a)
part_refused feed own rest (Feeding ended) m c n a =
    let b = subst (λ (t : List BackendMessage). Answers feed (t ++ m ∷ rest)) c.2 a in
    by ended b.server b.between n (subst (λ (e : Bool). Ends (opened b.server) e (m ∷ rest)) (sym c.3) (behind_opening feed c.0 c.1 (m ∷ rest) b))
  where
    by : (ended : Bool) (server : Server) → IsBetween server → MayNotCome (Feeding ended) m → Ends (opened server) ended (m ∷ rest) → ⊥
    by false server k n h = absurd cc
    by true server k n h = no_completion (record server { unnamed = None; portal = None }) m rest n (completes server (m ∷ rest) k h)
part_refused feed own rest Copied m c n a =
    let b = subst (λ (t : List BackendMessage). Answers feed (t ++ m ∷ rest)) c.3 a in
    let whole = CommandComplete c.2 ∷ m ∷ rest in
    no_further (record b.server { unnamed = None; portal = None }) c.2 m rest n (completes b.server whole b.between (subst (λ (e : Bool). Ends (opened b.server) e whole) c.4 (behind_opening feed c.0 c.1 whole b)))
part_refused feed own rest _ m c n a = absurd c

pub feed_refused : (feed : Feed) (own : List BackendMessage) (part : Part) (f : Frame) → AllByRecursion HasBackendFrame own → part_after (Opening feed.is_ended) own ≡ Some part → ((m : BackendMessage) → HasBackendFrame m → backend_frame m ≡ f → MayNotCome part m)
    → BeginsCopyResponse (feeding feed) (map backend_frame own ++ f ∷ []) → ⊥
feed_refused feed own part f have e out b =
    let t = split own f b.begins.0 (replied b.replies) have b.replies_have_frames b.begins.1 in
    let a = subst (λ (all : List BackendMessage). Answers feed all) t.whole (answers_by feed b.before b.after b.replies b.between.0 b.between.1 b.run) in
    part_refused feed own t.rest part t.message (came feed.is_ended part own e) (out t.message t.has_frame t.frame_is) a

-- ---- another reply that is lawful

-- a server behind the Query of a copy
abbrev asked : Server
asked = record fresh_server { unnamed = None; portal = None }

abbrev in_mode : CopyMode → CopyServer
in_mode mode = record { server = asked; mode = mode }

-- an answer that begins so
record Begun (m : BackendMessage) : Type 0 where
  tail : List BackendMessage
  new : CopyServer
  have : AllByRecursion HasBackendFrame tail
  answers : AnswersQuery asked (m ∷ tail) new

begun : (m : BackendMessage) → begins_segment m ≡ true → Begun m
begun (RowDescription fields) s =
    let last = RowDescription fields ∷ CommandComplete [] ∷ [] in
    record { tail = CommandComplete [] ∷ ReadyForQuery statuses.Idle ∷ []; new = in_mode NotCopying; have = (refl, (tt, tt)); answers = inl (record { before = []; last = last; status = statuses.Idle; whole = tt; ends = inl (inl (inr (inl (fields, [], [], tt, refl)))); are = refl }, refl) }
begun (CommandComplete tag) s = record { tail = ReadyForQuery statuses.Idle ∷ []; new = in_mode NotCopying; have = (tt, tt); answers = inl (record { before = []; last = CommandComplete tag ∷ []; status = statuses.Idle; whole = tt; ends = inl (inl (inl (tag, refl))); are = refl }, refl) }
begun EmptyQueryResponse s = record { tail = ReadyForQuery statuses.Idle ∷ []; new = in_mode NotCopying; have = (tt, tt); answers = inl (record { before = []; last = EmptyQueryResponse ∷ []; status = statuses.Idle; whole = tt; ends = inl (inl (inr (inr refl))); are = refl }, refl) }
begun (CopyOutResponse format columns) s =
    let last = CopyOutResponse format columns ∷ BackendCopyDone ∷ CommandComplete [] ∷ [] in
    record { tail = BackendCopyDone ∷ CommandComplete [] ∷ ReadyForQuery statuses.Idle ∷ []; new = in_mode NotCopying; have = (tt, (refl, (tt, tt))); answers = inl (record { before = []; last = last; status = statuses.Idle; whole = tt; ends = inl (inr (format, columns, [], [], refl)); are = refl }, refl) }
begun (CopyInResponse format columns) s = record { tail = []; new = in_mode QueryCopies; have = tt; answers = inr (([], CopyInResponse format columns, tt, (format, columns, refl), refl), refl) }
begun _ s = absurd cc

-- nothing of the data is answered: where no copy goes on, and while one does
abbrev Goes : CopyServer → List FrontendMessage → CopyServer → List BackendMessage → Type 0
Goes old messages new rs = (rss : List (List BackendMessage)) × CopyRun old messages rss new × (replied rss ≡ rs)

ignores_end : (ended : Bool) → Goes (in_mode NotCopying) (ended_by ended) (in_mode NotCopying) []
ignores_end false = ([], refl, refl)
ignores_end true = ([] ∷ [], (in_mode NotCopying, (asked, (refl, refl), refl), refl), refl)

ignores : (pieces : List (List ℕ)) (ended : Bool) → Goes (in_mode NotCopying) (map SendsData pieces ++ ended_by ended) (in_mode NotCopying) []
ignores [] ended = ignores_end ended
ignores (p ∷ ps) ended = let r = ignores ps ended in ([] ∷ r.0, (in_mode NotCopying, (asked, (refl, refl), refl), r.1), r.2)

takes_data : (pieces : List (List ℕ)) (messages : List FrontendMessage) (new : CopyServer) (rs : List BackendMessage) → Goes (in_mode QueryCopies) messages new rs → Goes (in_mode QueryCopies) (map SendsData pieces ++ messages) new rs
takes_data [] messages new rs g = g
takes_data (p ∷ ps) messages new rs g = let r = takes_data ps messages new rs g in ([] ∷ r.0, (in_mode QueryCopies, (refl, refl), r.1), r.2)

-- the response of a server that begins so
begins_so : (feed : Feed) (own tail : List BackendMessage) (m : BackendMessage) (new : CopyServer) → Goes fresh_copy_server (feeding feed) new (own ++ m ∷ tail) → AllByRecursion HasBackendFrame (own ++ m ∷ tail) → BeginsCopyResponse (feeding feed) (map backend_frame own ++ backend_frame m ∷ [])
begins_so feed own tail m new g have = record {
  before = fresh_copy_server;
  after = new;
  replies = g.0;
  between = (refl, (refl, refl));
  run = g.1;
  replies_have_frames = subst (AllByRecursion HasBackendFrame) (sym g.2) have;
  begins = (map backend_frame tail, append_assoc (map backend_frame own) (backend_frame m ∷ []) (map backend_frame tail) ∙ sym (map-append backend_frame own (m ∷ tail)) ∙ ap (map backend_frame) (sym g.2));
}

-- behind the opening: another reply than a copy from the client
strays_first : (feed : Feed) (m : BackendMessage) → HasBackendFrame m → may_stray (Opening feed.is_ended) m ≡ true → BeginsCopyResponse (feeding feed) (backend_frame m ∷ [])
unfolding begun
strays_first feed m have may = by m have (starts m may) (stays m may)
  where
    starts : (m : BackendMessage) → may_stray (Opening feed.is_ended) m ≡ true → begins_segment m ≡ true
    starts (CopyInResponse format columns) k = refl
    starts (RowDescription fields) k = refl
    starts (CommandComplete tag) k = refl
    starts EmptyQueryResponse k = refl
    starts (CopyOutResponse format columns) k = refl
    starts _ k = absurd cc

    stays : (m : BackendMessage) (k : may_stray (Opening feed.is_ended) m ≡ true) → (begun m (starts m k)).new ≡ in_mode NotCopying
    stays (CopyInResponse format columns) k = absurd cc
    stays (RowDescription fields) k = refl
    stays (CommandComplete tag) k = refl
    stays EmptyQueryResponse k = refl
    stays (CopyOutResponse format columns) k = refl
    stays _ k = absurd cc

    by : (m : BackendMessage) → HasBackendFrame m → (s : begins_segment m ≡ true) → (begun m s).new ≡ in_mode NotCopying → BeginsCopyResponse (feeding feed) (backend_frame m ∷ [])
    by m have s e =
        let b = begun m s in
        let r = ignores feed.pieces feed.is_ended in
        begins_so feed [] b.tail m (in_mode NotCopying)
        ((m ∷ b.tail) ∷ r.0, (in_mode NotCopying, subst (λ (n : CopyServer). AnswersQuery asked (m ∷ b.tail) n) e b.answers, r.1), ap (λ (t : List BackendMessage). (m ∷ b.tail) ++ t) r.2 ∙ append-nil (m ∷ b.tail))
        (have, b.have)

-- behind the completion: a further segment
strays_behind : (feed : Feed) (format : ℤ) (columns : List ℤ) (tag : List ℕ) (m : BackendMessage) → feed.is_ended ≡ true → HasBackendFrame (CopyInResponse format columns) → HasBackendFrame (CommandComplete tag) → HasBackendFrame m → begins_segment m ≡ true
    → BeginsCopyResponse (feeding feed) (backend_frame (CopyInResponse format columns) ∷ backend_frame (CommandComplete tag) ∷ backend_frame m ∷ [])
strays_behind feed format columns tag m ended opens completes have s =
    let b = begun m s in
    let g = CopyInResponse format columns in
    let c = CommandComplete tag in
    let whole = c ∷ m ∷ b.tail in
    let done : Goes (in_mode QueryCopies) (ended_by true) b.new whole = (whole ∷ [], (b.new, inl (tag, m ∷ b.tail, refl, inr b.answers), refl), append-nil whole) in
    let r = takes_data feed.pieces (ended_by feed.is_ended) b.new whole (subst (λ (e : Bool). Goes (in_mode QueryCopies) (ended_by e) b.new whole) (sym ended) done) in
    begins_so feed (g ∷ c ∷ []) b.tail m b.new
    ((g ∷ []) ∷ r.0, (in_mode QueryCopies, inr (([], g, tt, (format, columns, refl), refl), refl), r.1), ap (λ (t : List BackendMessage). (g ∷ []) ++ t) r.2)
    (opens, (completes, (have, b.have)))

pub feed_strays : (feed : Feed) (own : List BackendMessage) (part : Part) (m : BackendMessage) → AllByRecursion HasBackendFrame own → HasBackendFrame m → part_after (Opening feed.is_ended) own ≡ Some part → may_stray part m ≡ true
    → BeginsCopyResponse (feeding feed) (map backend_frame own ++ backend_frame m ∷ [])
feed_strays feed own part m have h e may = by part (came feed.is_ended part own e) may
  where
    by : (part : Part) → Came feed.is_ended part own → may_stray part m ≡ true → BeginsCopyResponse (feeding feed) (map backend_frame own ++ backend_frame m ∷ [])
    by (Opening ended) c k = subst (λ (t : List BackendMessage). BeginsCopyResponse (feeding feed) (map backend_frame t ++ backend_frame m ∷ [])) (sym c.0) (strays_first feed m h (subst (λ (b : Bool). may_stray (Opening b) m ≡ true) c.1 k))
    by (Feeding ended) c k = absurd cc
    by Copied c k =
        let had = subst (AllByRecursion HasBackendFrame) c.3 have in
        subst (λ (t : List BackendMessage). BeginsCopyResponse (feeding feed) (map backend_frame t ++ backend_frame m ∷ [])) (sym c.3) (strays_behind feed c.0 c.1 c.2 m c.4 had.0 had.1.0 h k)
    by _ c k = absurd c
