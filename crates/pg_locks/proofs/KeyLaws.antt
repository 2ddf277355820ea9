-- The numbers of a key, as a caller adds them and as the server gets them.
use Rattle.std.proofs.Common.{◌≡◌, List, [], None, ℕ, refl, ap, ◌∙◌, subst}
use Rattle.pg_arguments.specs.Builtin.{builtin_types}
use Rattle.pg_arguments.specs.Encoded.{Encoded, wires}
use Rattle.pg_arguments.specs.Arguments.{Arguments}
use Rattle.pg_request.specs.Queries.{ArgumentsSeen, QueryText}
use Rattle.pg_request.specs.Asked.{AsksWith, HasBytesOf, bytes_of, kept_query, names_in, oids_in, sent_as}
use Rattle.pg_locks.specs.declared.key.PgAdvisoryLockKey.{PgAdvisoryLockKey}
use Rattle.pg_locks.specs.declared.key.PgAdvisoryLockKey.TheVariants.{BigInt, IntPair}
use Rattle.pg_locks.specs.Keys.{HasKey, key_arguments, key_types, key_values, with_key}

types_sent : (key : PgAdvisoryLockKey) → oids_in (key_types key) ≡ (key_arguments key).types
unfolding builtin_types
types_sent (BigInt number) = refl
types_sent (IntPair first second) = refl

names_sent : (key : PgAdvisoryLockKey) → names_in (key_types key) ≡ (key_arguments key).names
unfolding builtin_types
names_sent (BigInt number) = refl
names_sent (IntPair first second) = refl

values_sent : (key : PgAdvisoryLockKey) → bytes_of (key_values key) ≡ (key_arguments key).values
values_sent (BigInt number) = refl
values_sent (IntPair first second) = refl

holes_sent : (key : PgAdvisoryLockKey) → (wires (key_values key)).holes ≡ []
holes_sent (BigInt number) = refl
holes_sent (IntPair first second) = refl

-- no OID is open within them
abbrev without_holes : ArgumentsSeen → ArgumentsSeen
without_holes a = record a { holes = []; open_in = None }

key_whole : (key : PgAdvisoryLockKey) → without_holes (key_arguments key) ≡ key_arguments key
key_whole (BigInt number) = refl
key_whole (IntPair first second) = refl

pub query_is : (key : PgAdvisoryLockKey) (sql : List ℕ) (a : Arguments) (q : QueryText) → HasKey key a → AsksWith a q.arguments → q ≡ kept_query sql (sent_as a) → q ≡ with_key sql key
query_is key sql a q h v e =
    let types : oids_in a.types ≡ (key_arguments key).types = ap oids_in h.types ∙ types_sent key in
    let values : HasBytesOf a (sent_as a) = subst (λ (x : QueryText). AsksWith a x.arguments) e v in
    let names : names_in a.types ≡ (key_arguments key).names = ap names_in h.types ∙ names_sent key in
    let holes : a.encoded.holes ≡ [] = ap (λ (x : Encoded). x.holes) h.values.2 ∙ holes_sent key in
    rw (e, types, names, values (key_values key) h.values, values_sent key, holes) refl ∙ ap (kept_query sql) (key_whole key)
