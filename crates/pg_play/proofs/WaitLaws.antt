-- Where reads waited, poll after poll.
use Rattle.std.proofs.Common.{◌≡◌, ◌⊎◌, inl, inr, ℕ, ◌+◌, List, [], ◌∷◌, ◌++◌, length, sym, ap, ◌∙◌, subst, append_assoc, append-nil, length-append, arith, Option, Some, None}
use Rattle.std.specs.Option.{IfSome}
use Rattle.std.specs.List.{AllByRecursion}
use Rattle.std.specs.Io.KnownBytes.{Keeps, Appends}
use Rattle.pg_wire.specs.Frame.{Frame, text_of}
use Rattle.pg_wire.specs.Server.{IsPrefixOf}
use Rattle.pg_stream.specs.Links.{GrewBy, AddsPlace}
use Rattle.pg_stream.specs.Streams.{StreamSeen, Takes, AreFrames, HasNone, NoneWaited, WriteWaited, ReadWaited, PendingCause}
use Rattle.pg_stream.proofs.Known.{Appends-then, Appends-refl, Appends-keeps}
use Rattle.pg_stream.proofs.StreamLemmas.{text_of-append}
use Rattle.pg_play.specs.Waits.{IsWaitPlace, WaitsAt}
use Rattle.pg_wire.proofs.Each.{each_end}

-- ---- fronts of lists

prefix_more : {A : Type 0} (xs ys zs : List A) → IsPrefixOf xs ys → IsPrefixOf xs (ys ++ zs)
prefix_more {A} xs ys zs p = (p.0 ++ zs, sym (append_assoc xs p.0 zs) ∙ ap (λ (x : List A). x ++ zs) p.1)

-- the bytes of frames, and of frames behind them
read_then : (held bytes more mid last : List ℕ) (fs gs : List Frame) → held ++ bytes ≡ text_of fs ++ mid → mid ++ more ≡ text_of gs ++ last → held ++ (bytes ++ more) ≡ text_of (fs ++ gs) ++ last
read_then held bytes more mid last fs gs p q =
    sym (append_assoc held bytes more) ∙ ap (λ (x : List ℕ). x ++ more) p ∙ append_assoc (text_of fs) mid more ∙ ap (λ (x : List ℕ). text_of fs ++ x) q
    ∙ sym (append_assoc (text_of fs) (text_of gs) last) ∙ ap (λ (x : List ℕ). x ++ last) (sym (text_of-append fs gs))

-- ---- places stay places

place_later : (old : Option (List ℕ)) (front bytes more : List ℕ) (fs gs : List Frame) (place : ℕ) → IsWaitPlace old front bytes fs place → IsWaitPlace old front (bytes ++ more) (fs ++ gs) place
place_later old front bytes more fs gs place w = record {
  early = w.early;
  first = prefix_more w.early bytes more w.first;
  place_is = w.place_is;
  whole = w.whole;
  rest = w.rest;
  cuts = w.cuts;
  taken = prefix_more w.whole fs gs w.taken;
}

places_later : (old : Option (List ℕ)) (front bytes more : List ℕ) (fs gs : List Frame) (places : List ℕ) → AllByRecursion (IsWaitPlace old front bytes fs) places → AllByRecursion (IsWaitPlace old front (bytes ++ more) (fs ++ gs)) places
places_later old front bytes more fs gs [] h = tt
places_later old front bytes more fs gs (p ∷ ps) h = (place_later old front bytes more fs gs p h.0, places_later old front bytes more fs gs ps h.1)

-- ---- what the link tells

pub told_always : (old : Option (List ℕ)) (P : Type 0) → P → IfSome old (λ given. P)
told_always None P p = tt
told_always (Some g) P p = p

told_kept : (old a b c : Option (List ℕ)) (places : List ℕ) → IfSome old (λ given. Appends a b places) → Keeps b c → IfSome old (λ given. Appends a c places)
told_kept None a b c places p k = tt
told_kept (Some g) a b c places p k = Appends-keeps a b c places p k

-- the number of bytes given, where they are told
abbrev place_by : Option (List ℕ) → ℕ
place_by None = 0
place_by (Some given) = length given

told_more : (old new a b c : Option (List ℕ)) (bytes places : List ℕ) → Appends old new bytes → IfSome old (λ given. Appends a b places) → AddsPlace new b c → IfSome old (λ given. Appends a c (places ++ place_by new ∷ []))
told_more None new a b c bytes places g p q = tt
told_more (Some s) None a b c bytes places g p q = absurd g
told_more (Some s) (Some t) a b c bytes places g p q = Appends-then a b c places (length t ∷ []) p q

place_now : (old new : Option (List ℕ)) (bytes : List ℕ) → Appends old new bytes → IfSome old (λ given. place_by new ≡ length given + length bytes)
place_now None new bytes g = tt
place_now (Some s) None bytes g = absurd g
place_now (Some s) (Some t) bytes g = ap (λ (x : List ℕ). length x) g ∙ length-append s bytes

-- ---- one poll more

-- a count that stands still
pub still_grown : (n x y z : ℕ) → GrewBy n x y → z ≡ y → GrewBy n x z
still_grown n x y z g e = subst (λ (k : ℕ). GrewBy n x k) (sym e) g

pub waits_none : (a : StreamSeen) → WaitsAt a a []
waits_none a = record {
  bytes = [];
  gave = Appends-refl a.link.given;
  read = append-nil a.held;
  places = [];
  told = told_always a.link.given (Appends a.link.wait_places a.link.wait_places []) (Appends-refl a.link.wait_places);
  write_waits = 0;
  waits = (omega arith, omega arith, omega arith);
  writes = (omega arith, omega arith, omega arith);
  behind = tt;
}

-- it did not wait
waits_still : (a b c : StreamSeen) (fs gs : List Frame) → WaitsAt a b fs → Takes b c gs → NoneWaited b c → WaitsAt a c (fs ++ gs)
waits_still a b c fs gs w t n = record {
  bytes = w.bytes ++ t.0;
  gave = Appends-then a.link.given b.link.given c.link.given w.bytes t.0 w.gave t.1;
  read = read_then a.held w.bytes t.0 b.held c.held fs gs w.read t.2;
  places = w.places;
  told = told_kept a.link.given a.link.wait_places b.link.wait_places c.link.wait_places w.places w.told n.1;
  write_waits = w.write_waits;
  waits = still_grown _ _ _ _ w.waits n.0;
  writes = still_grown _ _ _ _ w.writes n.2.0;
  behind = places_later a.link.given a.held w.bytes t.0 fs gs w.places w.behind;
}

-- a write waited
waits_write : (a b c : StreamSeen) (fs gs : List Frame) → WaitsAt a b fs → Takes b c gs → WriteWaited b c → WaitsAt a c (fs ++ gs)
waits_write a b c fs gs w t x = record {
  bytes = w.bytes ++ t.0;
  gave = Appends-then a.link.given b.link.given c.link.given w.bytes t.0 w.gave t.1;
  read = read_then a.held w.bytes t.0 b.held c.held fs gs w.read t.2;
  places = w.places;
  told = told_kept a.link.given a.link.wait_places b.link.wait_places c.link.wait_places w.places w.told x.2;
  write_waits = w.write_waits + 1;
  waits = omega (arith, w.waits, x.1);
  writes = omega (arith, w.writes, x.0);
  behind = places_later a.link.given a.held w.bytes t.0 fs gs w.places w.behind;
}

-- a read waited behind all whole frames
waits_read : (a b c : StreamSeen) (fs gs : List Frame) → WaitsAt a b fs → AreFrames (fs ++ gs) → Takes b c gs → ReadWaited b c → HasNone c.held → WaitsAt a c (fs ++ gs)
waits_read a b c fs gs w all t x none =
    let bytes : List ℕ = w.bytes ++ t.0 in
    let place : ℕ = place_by c.link.given in
    let gave : Appends a.link.given c.link.given bytes = Appends-then a.link.given b.link.given c.link.given w.bytes t.0 w.gave t.1 in
    let read : a.held ++ bytes ≡ text_of (fs ++ gs) ++ c.held = read_then a.held w.bytes t.0 b.held c.held fs gs w.read t.2 in
    record {
      bytes = bytes;
      gave = gave;
      read = read;
      places = w.places ++ place ∷ [];
      told = told_more a.link.given c.link.given a.link.wait_places b.link.wait_places c.link.wait_places bytes w.places gave w.told x.2;
      write_waits = w.write_waits;
      waits = omega (arith, w.waits, x.1, length-append w.places (place ∷ []));
      writes = still_grown _ _ _ _ w.writes x.3;
      behind = each_end (IsWaitPlace a.link.given a.held bytes (fs ++ gs)) w.places place (places_later a.link.given a.held w.bytes t.0 fs gs w.places w.behind) (record {
        early = bytes;
        first = ([], append-nil bytes);
        place_is = place_now a.link.given c.link.given bytes gave;
        whole = fs ++ gs;
        rest = c.held;
        cuts = record { text = read; whole = all; over = none };
        taken = ([], append-nil (fs ++ gs));
      });
    }

pub waits_on : (a b c : StreamSeen) (fs gs : List Frame) → WaitsAt a b fs → AreFrames (fs ++ gs) → Takes b c gs → NoneWaited b c ⊎ PendingCause (record b { left = 256 }) c → WaitsAt a c (fs ++ gs)
waits_on a b c fs gs w all t (inl n) = waits_still a b c fs gs w t n
waits_on a b c fs gs w all t (inr (inl x)) = waits_write a b c fs gs w t x
waits_on a b c fs gs w all t (inr (inr (inl x))) = waits_read a b c fs gs w all t x.0 x.2
waits_on a b c fs gs w all t (inr (inr (inr x))) = waits_still a b c fs gs w t x.1.2
