-- Where the reads of a step waited, and those of all steps.
use Rattle.std.proofs.Common.{◌≡◌, ℕ, zero, suc, ◌+◌, ◌^◌, ◌<◌, ◌≤◌, List, [], ◌∷◌, ◌++◌, length, sym, ap, ◌∙◌, subst, append_assoc, append-nil, length-append, arith, Option, Some, None}
use Rattle.std.specs.Prelude.{sum_by}
use Rattle.std.specs.Option.{IfSome}
use Rattle.std.specs.List.{AllByRecursion}
use Rattle.std.specs.Io.KnownBytes.{Appends}
use Rattle.pg_wire.specs.Frame.{Frame, text_of, backend_tags}
use Rattle.pg_wire.specs.Frontend.{FrontendMessage}
use Rattle.pg_wire.specs.Server.{IsPrefixOf}
use Rattle.pg_wire.proofs.CutLaws.{cut_unique}
use Rattle.pg_stream.specs.Links.{LinkSeen, StillTold, NoneFalls, GrewBy, RoseBy, Rose}
use Rattle.pg_stream.specs.Streams.{StreamSeen, AreFrames}
use Rattle.pg_stream.proofs.Known.{Appends-then, Appends-refl}
use Rattle.pg_stream.proofs.StreamLemmas.{AreFrames-append, text_of-append}
use Rattle.pg_call.specs.declared.request.Request.{Request}
use Rattle.pg_call.specs.Requests.{Group}
use Rattle.pg_conn.specs.Connections.{ConnSeen}
use Rattle.pg_report.specs.declared.outcome.Outcome.{Outcome}
use Rattle.pg_script.specs.declared.step.Step.{Step}
use Rattle.pg_play.specs.Waits.{IsWaitPlace, WaitsAt}
use Rattle.pg_play.specs.Calls.{HasWaitedFew, Counted, asking}
use Rattle.pg_play.specs.Places.{Place}
use Rattle.pg_play.specs.WaitPlaces.{WaitPlaces, LastPlaces}
use Rattle.pg_play.specs.Plays.{StandsAt, Plays_exchanges, Plays_from, places_of, places_in, AreTakenBefore, TakesInTimeIn, TakesInTime, begun_at}
use Rattle.pg_play.proofs.WaitLaws.{told_always}
use Rattle.pg_play.proofs.PlaceLaws.{next_place}
use Rattle.pg_play.proofs.LinkLaws.{sum_more}

-- ---- an exchange

-- frames that were taken before stand in front
read_behind : (before frames : List Frame) (held bytes last : List ℕ) → held ++ bytes ≡ text_of frames ++ last → text_of before ++ held ++ bytes ≡ text_of (before ++ frames) ++ last
read_behind before frames held bytes last e =
    append_assoc (text_of before) held bytes ∙ ap (λ (x : List ℕ). text_of before ++ x) e ∙ sym (append_assoc (text_of before) (text_of frames) last) ∙ ap (λ (x : List ℕ). x ++ last) (sym (text_of-append before frames))

place_behind : (old : Option (List ℕ)) (held bytes : List ℕ) (before frames : List Frame) (place : ℕ) → AreFrames before → IsWaitPlace old held bytes frames place → IsWaitPlace old (text_of before ++ held) bytes (before ++ frames) place
place_behind old held bytes before frames place all w = record {
  early = w.early;
  first = w.first;
  place_is = w.place_is;
  whole = before ++ w.whole;
  rest = w.rest;
  cuts = record { text = read_behind before w.whole held w.early w.rest w.cuts.text; whole = AreFrames-append before w.whole all w.cuts.whole; over = w.cuts.over };
  taken = (w.taken.0, append_assoc before w.whole w.taken.0 ∙ ap (λ (x : List Frame). before ++ x) w.taken.1);
}

places_behind : (old : Option (List ℕ)) (held bytes : List ℕ) (before frames : List Frame) → AreFrames before → (places : List ℕ) → AllByRecursion (IsWaitPlace old held bytes frames) places → AllByRecursion (IsWaitPlace old (text_of before ++ held) bytes (before ++ frames)) places
places_behind old held bytes before frames all [] h = tt
places_behind old held bytes before frames all (p ∷ ps) h = (place_behind old held bytes before frames p all h.0, places_behind old held bytes before frames all ps h.1)

pub places_step : (start first : StreamSeen) (old : Counted) (at : Place) (a b : ConnSeen) (r : Request) (polls : ℕ) (out : Outcome) (said : List FrontendMessage) (own : List Group) (fs : List Frame) → StandsAt start at a → first.waits ≡ 0 → polls < 2 ^ 32 → GrewBy out.waits old.waits b.stream.waits
    → HasWaitedFew polls first b.stream out.end → WaitsAt (asking r old a).stream b.stream fs → WaitPlaces at out (next_place at b said own fs out.end)
places_step start first old at a b r polls out said own fs st z p k few w = record {
  bytes = w.bytes;
  gave = rw (← st.seen) w.gave;
  read = rw (← st.seen) (read_behind at.frames fs a.stream.held w.bytes b.stream.held w.read);
  places = w.places;
  told = rw (← st.seen) w.told;
  write_waits = w.write_waits;
  all = omega (arith, z, p, k, few.1.all, few.1.waits.1, few.2.1, w.waits);
  writes = rw (← st.seen) w.writes;
  behind = rw (← st.seen) (places_behind a.stream.link.given a.stream.held w.bytes at.frames fs st.flows.read.3 w.places w.behind);
}

-- an exchange that did nothing
pub places_quiet : (at : Place) (out : Outcome) → out.waits ≡ 0 → WaitPlaces at out at
places_quiet at out z = record {
  bytes = [];
  gave = Appends-refl at.seen.link.given;
  read = append-nil (text_of at.frames ++ at.seen.held);
  places = [];
  told = told_always at.seen.link.given (Appends at.seen.link.wait_places at.seen.link.wait_places []) (Appends-refl at.seen.link.wait_places);
  write_waits = 0;
  all = omega (arith, z);
  writes = (omega arith, omega arith, omega arith);
  behind = tt;
}

-- ---- all steps

record PlacesFrom (a b : LinkSeen) (waits : ℕ) (places : List ℕ) : Type 0 where
  bytes : List ℕ
  gave : Appends a.given b.given bytes
  told : IfSome a.given (λ given. Appends a.wait_places b.wait_places places)
  write_waits : ℕ
  all : write_waits + length places ≡ waits
  writes : RoseBy write_waits a.write_waits b.write_waits

from_none : (a : LinkSeen) → PlacesFrom a a 0 []
from_none a = record {
  bytes = [];
  gave = Appends-refl a.given;
  told = told_always a.given (Appends a.wait_places a.wait_places []) (Appends-refl a.wait_places);
  write_waits = 0;
  all = omega arith;
  writes = omega arith;
}

told_then : (old new a b c : Option (List ℕ)) (bytes xs ys : List ℕ) → Appends old new bytes → IfSome old (λ given. Appends a b xs) → IfSome new (λ given. Appends b c ys) → IfSome old (λ given. Appends a c (xs ++ ys))
told_then None new a b c bytes xs ys g p q = tt
told_then (Some s) None a b c bytes xs ys g p q = absurd g
told_then (Some s) (Some t) a b c bytes xs ys g p q = Appends-then a b c xs ys p q

from_then : (a b c : LinkSeen) (x y sum : ℕ) (xs ys : List ℕ) → sum ≡ x + y → PlacesFrom a b x xs → PlacesFrom b c y ys → PlacesFrom a c sum (xs ++ ys)
from_then a b c x y sum xs ys e s t = record {
  bytes = s.bytes ++ t.bytes;
  gave = Appends-then a.given b.given c.given s.bytes t.bytes s.gave t.gave;
  told = told_then a.given b.given a.wait_places b.wait_places c.wait_places s.bytes xs ys s.gave s.told t.told;
  write_waits = s.write_waits + t.write_waits;
  all = omega (arith, e, s.all, t.all, length-append xs ys);
  writes = omega (arith, s.writes, t.writes);
}

from_one : (at next : Place) (out : Outcome) (w : WaitPlaces at out next) → PlacesFrom at.seen.link next.seen.link out.waits w.places
from_one at next out w = record { bytes = w.bytes; gave = w.gave; told = w.told; write_waits = w.write_waits; all = w.all; writes = w.writes.2 }

from_exchanges : (at : Place) (steps : List Step) (outs : List Outcome) (last : Place) (run : Plays_exchanges at steps outs last) → PlacesFrom at.seen.link last.seen.link (sum_by (λ out. out.waits) outs) (places_of at steps outs last run)
from_exchanges at [] [] last run = subst (λ (p : Place). PlacesFrom at.seen.link p.seen.link 0 []) (sym run) (from_none at.seen.link)
from_exchanges at [] (o ∷ outs) last run = absurd run
from_exchanges at (s ∷ steps) [] last run = absurd run
from_exchanges at (s ∷ steps) (o ∷ outs) last run =
    let rest = from_exchanges run.0 steps outs last run.2 in
    from_then at.seen.link run.0.seen.link last.seen.link o.waits (sum_by (λ (x : Outcome). x.waits) outs) (sum_by (λ (x : Outcome). x.waits) (o ∷ outs)) run.1.waits.places (places_of run.0 steps outs last run.2) (sum_more (λ (x : Outcome). x.waits) o outs) (from_one at run.0 o run.1.waits) rest

from_all : (at : Place) (steps : List Step) (outs : List Outcome) (last : Place) (run : Plays_from at steps outs last) → PlacesFrom at.seen.link last.seen.link (sum_by (λ out. out.waits) outs) (places_in at steps outs last run)
from_all at [] [] last run = subst (λ (p : Place). PlacesFrom at.seen.link p.seen.link 0 []) (sym run) (from_none at.seen.link)
from_all at [] (o ∷ outs) last run = absurd run
from_all at (s ∷ steps) [] last run = absurd run
from_all at (s ∷ steps) (o ∷ outs) last run =
    let one = run.1 in
    let here = from_exchanges (begun_at at one.learnt) one.exchanges one.outs run.0 one.run in
    let rest = from_all run.0 steps outs last run.2 in
    from_then at.seen.link run.0.seen.link last.seen.link (sum_by (λ (x : Outcome). x.waits) one.outs) (sum_by (λ (x : Outcome). x.waits) outs) (sum_by (λ (x : Outcome). x.waits) (o ∷ outs)) (places_of (begun_at at one.learnt) one.exchanges one.outs run.0 one.run) (places_in run.0 steps outs last run.2)
    (sum_more (λ (x : Outcome). x.waits) o outs ∙ ap (λ (n : ℕ). n + sum_by (λ (x : Outcome). x.waits) outs) one.tells.waits) here rest

-- the places come behind those that were told before
behind_earlier : (g h u v w : Option (List ℕ)) (bytes places given old new : List ℕ) → g ≡ Some given → u ≡ Some old → w ≡ Some new → Appends g h bytes → StillTold u v → IfSome h (λ z. Appends v w places) → (earlier : List ℕ) × (new ≡ earlier ++ places)
behind_earlier g None u v w bytes places given old new x y z a s t = absurd (subst (λ (o : Option (List ℕ)). Appends o None bytes) x a)
behind_earlier g (Some h) u None w bytes places given old new x y z a s t = absurd (subst (λ (o : Option (List ℕ)). StillTold o None) y s)
behind_earlier g (Some h) u (Some v) w bytes places given old new x y z a s t = (v, subst (λ (o : Option (List ℕ)). Appends (Some v) o places) z t)

no_writes : (waits n sum first at last : ℕ) → waits + n ≡ sum → RoseBy waits at last → first ≤ at → (Rose first last → ⊥) → n ≡ sum
no_writes zero n sum first at last e r le none = omega (arith, e)
no_writes (suc waits) n sum first at last e r le none = absurd (none (omega (arith, r, le)))

-- from the link as start-up found it
pub places_last : (first : LinkSeen) (at : Place) (steps : List Step) (outs : List Outcome) (last : Place) (run : Plays_from at steps outs last) (bytes : List ℕ) → NoneFalls first at.seen.link → Appends first.given at.seen.link.given bytes
    → LastPlaces first last.seen.link outs (places_in at steps outs last run)
places_last first at steps outs last run bytes n g =
    let places : List ℕ = places_in at steps outs last run in
    let all : PlacesFrom at.seen.link last.seen.link (sum_by (λ (o : Outcome). o.waits) outs) places = from_all at steps outs last run in
    record {
      last_are = λ given old new x y z. behind_earlier first.given at.seen.link.given first.wait_places at.seen.link.wait_places last.seen.link.wait_places bytes places given old new x y z g n.places all.told;
      many = λ none. no_writes all.write_waits (length places) (sum_by (λ (o : Outcome). o.waits) outs) first.write_waits at.seen.link.write_waits last.seen.link.write_waits all.all all.writes n.write_waits none;
    }

-- ---- the bytes before a wait

-- they are a front of all bytes
taken_before : (start given bytes all front : List ℕ) (frames : List Frame) (place : ℕ) → given ≡ start ++ front → IsPrefixOf (given ++ bytes) all → IsWaitPlace (Some given) front bytes frames place → AreTakenBefore start all frames place
taken_before start given bytes all front frames place e p w =
    let early : List ℕ = w.early in
    let is : place ≡ length given + length early = w.place_is in
    let same : start ++ (front ++ early) ≡ given ++ early = sym (append_assoc start front early) ∙ ap (λ (x : List ℕ). x ++ early) (sym e) in (
      front ++ early,
      omega (arith, is, ap (λ (x : List ℕ). length x) e, length-append start front, length-append front early),
      (
        w.first.0 ++ p.0,
        ap (λ (x : List ℕ). x ++ (w.first.0 ++ p.0)) same ∙ sym (append_assoc (given ++ early) w.first.0 p.0) ∙ ap (λ (x : List ℕ). x ++ p.0) (append_assoc given early w.first.0 ∙ ap (λ (x : List ℕ). given ++ x) w.first.1) ∙ p.1,
      ),
      λ fs rest c. subst (λ (x : List Frame). IsPrefixOf x frames) (sym (cut_unique backend_tags (front ++ early) fs w.whole rest w.rest c w.cuts).0) w.taken,
    )

all_before : (start given bytes all front : List ℕ) (frames : List Frame) (places : List ℕ) → given ≡ start ++ front → IsPrefixOf (given ++ bytes) all → AllByRecursion (IsWaitPlace (Some given) front bytes frames) places → AllByRecursion (AreTakenBefore start all frames) places
all_before start given bytes all front frames [] e p h = tt
all_before start given bytes all front frames (place ∷ places) e p h = (taken_before start given bytes all front frames place e p h.0, all_before start given bytes all front frames places e p h.1)

pub given_next : (g h : Option (List ℕ)) (given bytes : List ℕ) → g ≡ Some given → Appends g h bytes → h ≡ Some (given ++ bytes)
given_next g None given bytes e a = absurd (subst (λ (o : Option (List ℕ)). Appends o None bytes) e a)
given_next g (Some h) given bytes e a = ap (λ (x : List ℕ). Some x) (subst (λ (o : Option (List ℕ)). Appends o (Some h) bytes) e a)

-- and they are told once
same_given : (o : Option (List ℕ)) (x y : List ℕ) → o ≡ Some x → o ≡ Some y → y ≡ x
same_given None x y e f = absurd cc
same_given (Some z) x y e f =
    let p : z ≡ x = cc in
    let q : z ≡ y = cc in
    sym q ∙ p

-- what was read behind the first bytes is the end of all bytes given
abbrev StandsBehind : List ℕ → Place → List ℕ → Type 0
StandsBehind start at given = given ≡ start ++ (text_of at.frames ++ at.seen.held)

takes_step : (start given new : List ℕ) (at next : Place) (final : Option (List ℕ)) (out : Outcome) (w : WaitPlaces at out next) (later : List ℕ) → at.seen.link.given ≡ Some given → StandsBehind start at given → final ≡ Some new → Appends next.seen.link.given final later
    → AllByRecursion (AreTakenBefore start new next.frames) w.places
takes_step start given new at next final out w later e r l t =
    let front : List ℕ = text_of at.frames ++ at.seen.held in
    let gave : Appends at.seen.link.given final (w.bytes ++ later) = Appends-then at.seen.link.given next.seen.link.given final w.bytes later w.gave t in
    let all : given ++ (w.bytes ++ later) ≡ new = same_given final new (given ++ (w.bytes ++ later)) l (given_next at.seen.link.given final given (w.bytes ++ later) e gave) in
    all_before start given w.bytes new front next.frames w.places r (later, append_assoc given w.bytes later ∙ all) (subst (λ (o : Option (List ℕ)). AllByRecursion (IsWaitPlace o front w.bytes next.frames) w.places) e w.behind)

reads_next : (start given : List ℕ) (at next : Place) (out : Outcome) (w : WaitPlaces at out next) → StandsBehind start at given → StandsBehind start next (given ++ w.bytes)
reads_next start given at next out w r =
    ap (λ (x : List ℕ). x ++ w.bytes) r ∙ append_assoc start (text_of at.frames ++ at.seen.held) w.bytes ∙ ap (λ (x : List ℕ). start ++ x) w.read

-- behind exchanges the link has given so much, and what was read stands behind the first bytes still
record GivesOn (start : List ℕ) (next : Place) : Type 0 where
  given : List ℕ
  told : next.seen.link.given ≡ Some given
  behind : StandsBehind start next given

gives_on : (start given : List ℕ) (at : Place) (steps : List Step) (outs : List Outcome) (last : Place) → Plays_exchanges at steps outs last → at.seen.link.given ≡ Some given → StandsBehind start at given → GivesOn start last
gives_on start given at [] [] last run e r = subst (λ (p : Place). GivesOn start p) (sym run) (record { given = given; told = e; behind = r })
gives_on start given at [] (o ∷ outs) last run e r = absurd run
gives_on start given at (s ∷ steps) [] last run e r = absurd run
gives_on start given at (s ∷ steps) (o ∷ outs) last run e r =
    let w = run.1.waits in
    gives_on start (given ++ w.bytes) run.0 steps outs last run.2 (given_next at.seen.link.given run.0.seen.link.given given w.bytes e w.gave) (reads_next start given at run.0 o w r)

takes_exchanges : (start given new : List ℕ) (at : Place) (steps : List Step) (outs : List Outcome) (last : Place) (run : Plays_exchanges at steps outs last) (final : Option (List ℕ)) (later : List ℕ) → at.seen.link.given ≡ Some given → StandsBehind start at given → final ≡ Some new → Appends last.seen.link.given final later
    → TakesInTimeIn start new at steps outs last run
takes_exchanges start given new at [] [] last run final later e r l t = tt
takes_exchanges start given new at [] (o ∷ outs) last run final later e r l t = absurd run
takes_exchanges start given new at (s ∷ steps) [] last run final later e r l t = absurd run
takes_exchanges start given new at (s ∷ steps) (o ∷ outs) last run final later e r l t =
    let next : Place = run.0 in
    let w : WaitPlaces at o next = run.1.waits in
    let rest = from_exchanges next steps outs last run.2 in (
      takes_step start given new at next final o w (rest.bytes ++ later) e r l (Appends-then next.seen.link.given last.seen.link.given final rest.bytes later rest.gave t),
      takes_exchanges start (given ++ w.bytes) new next steps outs last run.2 final later (given_next at.seen.link.given next.seen.link.given given w.bytes e w.gave) (reads_next start given at next o w r) l t,
    )

pub takes_all : (start given new : List ℕ) (at : Place) (steps : List Step) (outs : List Outcome) (last : Place) (run : Plays_from at steps outs last) → at.seen.link.given ≡ Some given → StandsBehind start at given → last.seen.link.given ≡ Some new
    → TakesInTime start new at steps outs last run
takes_all start given new at [] [] last run e r l = tt
takes_all start given new at [] (o ∷ outs) last run e r l = absurd run
takes_all start given new at (s ∷ steps) [] last run e r l = absurd run
takes_all start given new at (s ∷ steps) (o ∷ outs) last run e r l =
    let one = run.1 in
    let rest = from_all run.0 steps outs last run.2 in
    let on = gives_on start given (begun_at at one.learnt) one.exchanges one.outs run.0 one.run e r in (
      takes_exchanges start given new (begun_at at one.learnt) one.exchanges one.outs run.0 one.run last.seen.link.given rest.bytes e r l rest.gave,
      takes_all start on.given new run.0 steps outs last run.2 on.told on.behind l,
    )
