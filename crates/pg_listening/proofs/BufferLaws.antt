-- What is heard in one step after another adds up.
use Rattle.std.proofs.Common.{◌≡◌, inl, inr, List, [], ◌∷◌, ◌++◌, append-nil, append_assoc, refl, sym, ap, ◌∙◌, subst, Option, Some, None, option_to_list}
use Rattle.pg_wire.specs.declared.message.notification_response.Notification.{Notification}
use Rattle.pg_stream.specs.Links.{LinkSeen}
use Rattle.pg_stream.specs.Notifications.{KeptSeen, TakesOldest}
use Rattle.pg_stream.specs.Streams.{StreamSeen}
use Rattle.pg_stream.proofs.Known.{NoneFalls-then}
use Rattle.pg_stream.proofs.NotificationLaws.{NotifiesAll-append}
use Rattle.pg_stream.proofs.StreamLemmas.{Moves-none, Takes-then}
use Rattle.pg_conn.specs.News.{ReadsNews}
use Rattle.pg_listening.specs.Buffers.{BuffersSeen, Hears, LosesOn, ReadsOn, ReadsOver, ReadsTo, buffered, news_begun}

ReadsOn-then : (a b c : StreamSeen) (m n : List Notification) → ReadsOn a b m → ReadsOn b c n → ReadsOn a c (m ++ n)
ReadsOn-then a b c m n p q = record {
  frames = p.frames ++ q.frames;
  counts = NoneFalls-then a.link b.link c.link p.counts q.counts;
  read = Takes-then a b c p.frames q.frames p.read q.read;
  told = NotifiesAll-append p.frames q.frames m n p.told q.told;
}

ReadsTo-then : (a : Option StreamSeen) (b c : StreamSeen) (m n : List Notification) → ReadsTo a b m → ReadsOn b c n → ReadsTo a c (m ++ n)
ReadsTo-then None b c m n p q = (p.0, p.1, ReadsOn-then p.0 b c m n p.2 q)
ReadsTo-then (Some a) b c m n p q = ReadsOn-then a b c m n p q

loses_behind : (a : Option StreamSeen) (b : StreamSeen) (link : LinkSeen) (m n : List Notification) → ReadsTo a b m → LosesOn (Some b) link n → LosesOn a link (m ++ n)
loses_behind a b link m n p (inl q) = inl (q.0, ReadsTo-then a b q.0 m n p q.1, q.2)
loses_behind a b link m n p (inr q) = absurd q

-- what is read before on the connection that the rest begins with
reads_first : (lost : List LinkSeen) (a : Option StreamSeen) (b : StreamSeen) (c : Option StreamSeen) (m n : List Notification) → ReadsTo a b m → ReadsOver lost (Some b) c n → ReadsOver lost a c (m ++ n)
reads_first [] a b None m n p q = absurd q
reads_first [] None b (Some c) m n p q = ReadsTo-then None b c m n p q
reads_first [] (Some a) b (Some c) m n p q = ReadsTo-then (Some a) b c m n p q
reads_first (link ∷ lost) a b c m n p q = (m ++ q.0, q.1, loses_behind a b link m q.0 p q.2, q.3, ap (λ (l : List Notification). m ++ l) q.4 ∙ sym (append_assoc m q.0 q.1))

ReadsOver-then : (l m : List LinkSeen) (a b c : Option StreamSeen) (n o : List Notification) → ReadsOver l a b n → ReadsOver m b c o → ReadsOver (l ++ m) a c (n ++ o)
ReadsOver-then [] m None None c n o p q = subst (λ (x : List Notification). ReadsOver m None c (x ++ o)) (sym p) q
ReadsOver-then [] m (Some a) None c n o p q = absurd p
ReadsOver-then [] m None (Some b) c n o p q = reads_first m None b c n o p q
ReadsOver-then [] m (Some a) (Some b) c n o p q = reads_first m (Some a) b c n o p q
ReadsOver-then (link ∷ l) m a b c n o p q =
    (p.0, p.1 ++ o, p.2, ReadsOver-then l m None b c p.1 o p.3 q, ap (λ (x : List Notification). x ++ o) p.4 ∙ append_assoc p.0 p.1 o)

pub Hears-then : (l m : List LinkSeen) (a b c : BuffersSeen) (g h : List Notification) → Hears l a b g → Hears m b c h → Hears (l ++ m) a c (g ++ h)
Hears-then l m a b c g h p q = record {
  news = p.news ++ q.news;
  over = ReadsOver-then l m a.stream b.stream c.stream p.news q.news p.over q.over;
  told = append_assoc g h (buffered c)
      ∙ ap (λ (x : List Notification). g ++ x) q.told
      ∙ sym (append_assoc g (buffered b) q.news)
      ∙ ap (λ (x : List Notification). x ++ q.news) p.told
      ∙ append_assoc (buffered a) p.news q.news;
}

-- ---- nothing is read

-- of a stream only what is kept has changed
same_on : (a b : StreamSeen) → b ≡ record a { notifications = b.notifications } → ReadsOn a b []
same_on a b e =
    let m = Moves-none a in
    subst (λ (s : StreamSeen). ReadsOn a s []) (sym e) (record { frames = []; counts = m.counts; read = m.read; told = refl })

over_none : (s : Option StreamSeen) → ReadsOver [] s s []
over_none None = refl
over_none (Some s) = same_on s s refl

pub hears_none : (b : BuffersSeen) → Hears [] b b []
hears_none b = record { news = []; over = over_none b.stream; told = sym (append-nil (buffered b)) }

-- one of those read earlier is given
pub hears_earlier : (n : Notification) (e : List Notification) (s : Option StreamSeen) → Hears [] (record { earlier = n ∷ e; stream = s }) (record { earlier = e; stream = s }) (n ∷ [])
hears_earlier n e s = record { news = []; over = over_none s; told = sym (append-nil (buffered (record { earlier = n ∷ e; stream = s }))) }

-- the oldest of those that the connection keeps, where none was read earlier
pub hears_oldest : (a b : StreamSeen) (n : Option Notification) → b ≡ record a { notifications = b.notifications } → TakesOldest a.notifications b.notifications n
    → Hears [] (record { earlier = []; stream = Some a }) (record { earlier = []; stream = Some b }) (option_to_list n)
hears_oldest a b (Some n) e t = record { news = []; over = same_on a b e; told = ap (λ (k : KeptSeen). k.kept) (sym t) ∙ sym (append-nil a.notifications.kept) }
hears_oldest a b None e t = record { news = []; over = same_on a b e; told = ap (λ (k : KeptSeen). k.kept) t.1 ∙ sym (append-nil a.notifications.kept) }

-- those that it keeps go behind those read earlier
pub hears_saved : (a b : StreamSeen) (e f : List Notification) → b ≡ record a { notifications = b.notifications } → f ++ b.notifications.kept ≡ e ++ a.notifications.kept
    → Hears [] (record { earlier = e; stream = Some a }) (record { earlier = f; stream = Some b }) []
hears_saved a b e f s k = record { news = []; over = same_on a b s; told = k ∙ sym (append-nil (e ++ a.notifications.kept)) }

-- it is lost once it keeps none
pub hears_lost : (a : StreamSeen) (e : List Notification) → a.notifications.kept ≡ [] → Hears (a.link ∷ []) (record { earlier = e; stream = Some a }) (record { earlier = e; stream = None }) []
hears_lost a e k = record {
  news = [];
  over = ([], [], inl (a, same_on a a refl, refl), refl, refl);
  told = ap (λ (x : List Notification). e ++ x) (sym k) ∙ sym (append-nil (e ++ a.notifications.kept));
}

-- a start-up has failed
pub hears_failed : (link : LinkSeen) (e : List Notification) → Hears (link ∷ []) (record { earlier = e; stream = None }) (record { earlier = e; stream = None }) []
hears_failed link e = record { news = []; over = ([], [], inr refl, refl, refl); told = sym (append-nil (e ++ [])) }

-- and another one is taken up
pub hears_begun : (b : StreamSeen) (e : List Notification) → b.notifications ≡ news_begun → Hears [] (record { earlier = e; stream = None }) (record { earlier = e; stream = Some b }) []
hears_begun b e k = record {
  news = [];
  over = (b, k, same_on b b refl);
  told = ap (λ (x : KeptSeen). e ++ x.kept) k ∙ sym (append-nil (e ++ []));
}

-- ---- the connection reads on

reads_on : (a b : StreamSeen) (g : List Notification) (r : ReadsNews a b g) → ReadsOn a b r.news
reads_on a b g r = record { frames = r.frames; counts = r.counts; read = r.read; told = r.told }

pub hears_reads : (a b : StreamSeen) (e : List Notification) → ReadsNews a b [] → Hears [] (record { earlier = e; stream = Some a }) (record { earlier = e; stream = Some b }) []
hears_reads a b e r = record { news = r.news; over = reads_on a b [] r; told = ap (λ (x : List Notification). e ++ x) r.kept ∙ sym (append_assoc e a.notifications.kept r.news) }

-- and gives, where none was read earlier
pub hears_gives : (a b : StreamSeen) (g : List Notification) → ReadsNews a b g → Hears [] (record { earlier = []; stream = Some a }) (record { earlier = []; stream = Some b }) g
hears_gives a b g r = record { news = r.news; over = reads_on a b g r; told = r.kept }

-- ---- by the parts of what is buffered

buffers_are : (a : BuffersSeen) (e : List Notification) (s : Option StreamSeen) → a.earlier ≡ e → a.stream ≡ s → a ≡ record { earlier = e; stream = s }
buffers_are a e s p q =
    let first : List Notification → BuffersSeen = λ x. record { earlier = x; stream = a.stream } in
    let second : Option StreamSeen → BuffersSeen = λ x. record { earlier = e; stream = x } in
    ap first p ∙ ap second q

pub hears_at : (l : List LinkSeen) (a b : BuffersSeen) (e f : List Notification) (s t : Option StreamSeen) (g : List Notification) → a.earlier ≡ e → a.stream ≡ s → b.earlier ≡ f → b.stream ≡ t
    → Hears l (record { earlier = e; stream = s }) (record { earlier = f; stream = t }) g → Hears l a b g
hears_at l a b e f s t g p q r u h =
    let begun : BuffersSeen = record { earlier = e; stream = s } in
    subst (λ (x : BuffersSeen). Hears l x b g) (sym (buffers_are a e s p q)) (subst (λ (x : BuffersSeen). Hears l begun x g) (sym (buffers_are b f t r u)) h)
