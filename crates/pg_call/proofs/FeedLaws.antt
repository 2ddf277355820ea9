-- A copy from the client that is fed.
use Rattle.std.proofs.Common.{◌≡◌, ℕ, Bool, true, false, List, [], ◌∷◌, ◌++◌, map, Some, refl, sym, ap, ◌∙◌, subst, append_assoc, append-nil}
use Rattle.std.specs.List.{AllByRecursion}
use Rattle.std.proofs.lemmas.List.{map-append}
use Rattle.pg_wire.specs.Frame.{Frame}
use Rattle.pg_wire.specs.Frontend.{FrontendMessage, HasFrontendFrame, Query, CopyData, CopyDone}
use Rattle.pg_wire.specs.Backend.{BackendMessage}
use Rattle.pg_request.specs.Queries.{QueryText}
use Rattle.pg_call.specs.declared.feed.Feed.{Feed}
use Rattle.pg_call.specs.declared.kind.Kind.TheVariants as kinds
use Rattle.pg_call.specs.declared.request.Request.{Request}
use Rattle.pg_call.specs.declared.request.Request.TheVariants as requests
use Rattle.pg_call.specs.declared.answer.CallItem.{CallItem}
use Rattle.pg_call.specs.declared.judging.Part.{Part}
use Rattle.pg_call.specs.declared.judging.Part.TheVariants.{Opening, Feeding}
use Rattle.pg_call.specs.declared.ledger.Ledger.{Ledger}
use Rattle.pg_call.specs.declared.calling.Call.{Call}
use Rattle.pg_call.specs.declared.calling.Call.TheVariants as calls
use Rattle.pg_call.specs.Requests.{kind_of, feeding, ended_by, CanBeSaid}
use Rattle.pg_call.specs.Replies.{part_after}
use Rattle.pg_call.specs.Drains.{before_readys, drain_fails}
use Rattle.pg_call.specs.Hearing.{IsOpen, fed_part, fed_whole}
use Rattle.pg_call.specs.Calls.{CallIs}
use Rattle.pg_call.proofs.CopyInLaws.{came}

-- the same copy, with one more piece, and with the last
abbrev pub fed : List ℕ → Feed → Feed
fed piece feed = record feed { pieces = feed.pieces ++ piece ∷ [] }

abbrev pub fed_all : Feed → Feed
fed_all feed = record feed { is_ended = true }

-- frames carry all of it
data_said : (pieces : List (List ℕ)) (ended : Bool) → AllByRecursion HasFrontendFrame (((map CopyData pieces ++ ended_by ended) ++ []) ++ [])
data_said [] true = (tt, tt)
data_said [] false = tt
data_said (p ∷ ps) ended = (tt, data_said ps ended)

pub feed_said : (feed feed' : Feed) → feed'.query ≡ feed.query → CanBeSaid (requests.CopyIn feed) → CanBeSaid (requests.CopyIn feed')
feed_said feed feed' e can = ((subst (λ (q : QueryText). HasFrontendFrame (Query q.sql)) (sym e) can.0.0, data_said feed'.pieces feed'.is_ended), tt)

pub one_more : (pieces : List (List ℕ)) (piece : List ℕ) → (map CopyData pieces ++ []) ++ CopyData piece ∷ [] ≡ map CopyData (pieces ++ piece ∷ []) ++ []
one_more pieces piece = ap (λ (t : List FrontendMessage). t ++ CopyData piece ∷ []) (append-nil (map CopyData pieces)) ∙ sym (map-append CopyData pieces (piece ∷ [])) ∙ sym (append-nil (map CopyData (pieces ++ piece ∷ [])))

-- what is said of it, with one message more
pub said_more : (before said : List FrontendMessage) (whole whole' : List FrontendMessage) (m : FrontendMessage) → said ≡ before ++ (whole ++ []) → whole ++ m ∷ [] ≡ whole' → said ++ m ∷ [] ≡ before ++ (whole' ++ [])
said_more before said whole whole' m s e =
    ap (λ (t : List FrontendMessage). t ++ m ∷ []) s
    ∙ append_assoc before (whole ++ []) (m ∷ [])
    ∙ ap (λ (t : List FrontendMessage). before ++ t) (ap (λ (t : List FrontendMessage). t ++ m ∷ []) (append-nil whole) ∙ e ∙ sym (append-nil whole'))

fed_said : (feed : Feed) (piece : List ℕ) → feed.is_ended ≡ false → feeding feed ++ CopyData piece ∷ [] ≡ feeding (fed piece feed)
fed_said feed piece e = ap (λ (t : List FrontendMessage). Query feed.query.sql ∷ t) (by feed.is_ended e)
  where
    by : (ended : Bool) → ended ≡ false → (map CopyData feed.pieces ++ ended_by ended) ++ CopyData piece ∷ [] ≡ map CopyData (feed.pieces ++ piece ∷ []) ++ ended_by ended
    by false e = one_more feed.pieces piece
    by true e = absurd cc

pub ended_said : (feed : Feed) → feed.is_ended ≡ false → feeding feed ++ CopyDone ∷ [] ≡ feeding (fed_all feed)
ended_said feed e = ap (λ (t : List FrontendMessage). Query feed.query.sql ∷ t) (by feed.is_ended e)
  where
    by : (ended : Bool) → ended ≡ false → (map CopyData feed.pieces ++ ended_by ended) ++ CopyDone ∷ [] ≡ map CopyData feed.pieces ++ CopyDone ∷ []
    by false e = ap (λ (t : List FrontendMessage). t ++ CopyDone ∷ []) (append-nil (map CopyData feed.pieces))
    by true e = absurd cc

abbrev Kept : Request → Ledger → List FrontendMessage → List Frame → List CallItem → Ledger → Call → Type 0
Kept r start said hs items ledger call = (kind_of r ≡ kinds.CopyIn) × CallIs start r said hs items ledger call

-- a piece is sent behind the others, and the copy stays open
pub feeds_one : (start : Ledger) (r : Request) (said : List FrontendMessage) (hs : List Frame) (items : List CallItem) (ledger : Ledger) (call : Call) (piece : List ℕ) → kind_of r ≡ kinds.CopyIn → IsOpen call → CallIs start r said hs items ledger call
    → (r' : Request) × Kept r' start (said ++ CopyData piece ∷ []) hs items ledger call
feeds_one start (requests.CopyIn feed) said hs items ledger (calls.Own reply) piece k is_open i =
    let c = i.2 in
    let at = came feed.is_ended (Feeding false) c.own (subst (λ (p : Part). part_after (Opening feed.is_ended) c.own ≡ Some p) is_open c.so_far) in
    let feed' = fed piece feed in (
      requests.CopyIn feed',
      (
        refl,
        (
          i.0,
          feed_said feed feed' refl i.1,
          record {
            own = c.own;
            kind_is = c.kind_is;
            one = refl;
            said_is = said_more (drain_fails start.is_copy_failed (before_readys start.owed hs)) said (feeding feed) (feeding feed') (CopyData piece) c.said_is (fed_said feed piece (sym at.3));
            counted = c.counted;
            well = c.well;
            own_is = c.own_is;
            own_have_frames = c.own_have_frames;
            so_far = c.so_far;
            rest_is = c.rest_is;
            heading_is = c.heading_is;
            parameters_are = c.parameters_are;
            tally_is = c.tally_is;
            items_are = c.items_are;
          },
        ),
      ),
    )
feeds_one start (requests.CopyIn feed) said hs items ledger calls.Idle piece k is_open i = absurd is_open
feeds_one start (requests.CopyIn feed) said hs items ledger (calls.Asked asked) piece k is_open i = absurd is_open
feeds_one start (requests.CopyIn feed) said hs items ledger (calls.Waiting w) piece k is_open i = absurd is_open
feeds_one start (requests.CopyIn feed) said hs items ledger calls.Closing piece k is_open i = absurd is_open
feeds_one start (requests.Run bound) said hs items ledger call piece k is_open i = absurd cc
feeds_one start _ said hs items ledger call piece k is_open i = absurd cc

-- all of it is sent, and the end of the reply is awaited
pub feeds_all : (start : Ledger) (r : Request) (said : List FrontendMessage) (hs : List Frame) (items : List CallItem) (ledger : Ledger) (call : Call) → kind_of r ≡ kinds.CopyIn → IsOpen call → CallIs start r said hs items ledger call
    → (r' : Request) × Kept r' start (said ++ CopyDone ∷ []) hs items ledger (fed_whole call)
feeds_all start (requests.CopyIn feed) said hs items ledger (calls.Own reply) k is_open i =
    let c = i.2 in
    let at = came feed.is_ended (Feeding false) c.own (subst (λ (p : Part). part_after (Opening feed.is_ended) c.own ≡ Some p) is_open c.so_far) in
    let feed' = fed_all feed in (
      requests.CopyIn feed',
      (
        refl,
        (
          i.0,
          feed_said feed feed' refl i.1,
          record {
            own = c.own;
            kind_is = c.kind_is;
            one = refl;
            said_is = said_more (drain_fails start.is_copy_failed (before_readys start.owed hs)) said (feeding feed) (feeding feed') CopyDone c.said_is (ended_said feed (sym at.3));
            counted = c.counted;
            well = c.well;
            own_is = c.own_is;
            own_have_frames = c.own_have_frames;
            so_far = subst (λ (t : List BackendMessage). part_after (Opening true) t ≡ Some (fed_part reply.part)) (sym at.2) (ap (λ (p : Part). Some (fed_part p)) (sym is_open));
            rest_is = c.rest_is;
            heading_is = c.heading_is;
            parameters_are = c.parameters_are;
            tally_is = c.tally_is;
            items_are = c.items_are;
          },
        ),
      ),
    )
feeds_all start (requests.CopyIn feed) said hs items ledger calls.Idle k is_open i = absurd is_open
feeds_all start (requests.CopyIn feed) said hs items ledger (calls.Asked asked) k is_open i = absurd is_open
feeds_all start (requests.CopyIn feed) said hs items ledger (calls.Waiting w) k is_open i = absurd is_open
feeds_all start (requests.CopyIn feed) said hs items ledger calls.Closing k is_open i = absurd is_open
feeds_all start (requests.Run bound) said hs items ledger call k is_open i = absurd cc
feeds_all start _ said hs items ledger call k is_open i = absurd cc
