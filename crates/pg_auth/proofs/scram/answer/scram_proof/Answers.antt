use Rattle.std.proofs.Common.{◌≡◌, Bool, true, false, IsTrue, ◌↔◌, Some, refl, sym, arith}
use Rattle.base64.specs.GeneralPurpose.{IsBytes}
use Rattle.pg_auth.specs.Reading.{said, server_first_at}
use Rattle.pg_auth.proofs.PlainLemmas.{printable_ascii}
use Rattle.pg_auth.proofs.ServerFirstLaws.{server_first_is, no_server_first}
use Rattle.pg_auth.proofs.scram.answer.scram_proof.Goals as goal
use Rattle.pg_wire.proofs.Tests.{if_ok}

pub returns-in_default-clause-refused : goal.returns-in_default-clause-refused
returns-in_default-clause-refused c =
    rw c.refused.ensures (refl, (c.in_ok-check_plain.ensures.ok, c.in_ok-check_plain-2.ensures.ok), no_server_first c.args.server_first.now (rw c.in_default.is at c.in_ok-server.ensures.ok))

false_true : (b : Bool) → b ≡ false → b ≡ true → ⊥
false_true b e h = cc

not_then : (b : Bool) (P : Type 0) → (IsTrue b ↔ P) → b ≡ false → P → ⊥
not_then b P iff e p = false_true b e (iff.1 p)

pub returns-then-not-continues-clause-refused : goal.returns-then-not-continues-clause-refused
returns-then-not-continues-clause-refused c =
    let read : Some (said c.in-Some.server.nonce.now c.in-Some.server.salt.items c.in-Some.server.rounds) ≡ server_first_at c.args.server_first.now = rw c.in-Some.is at c.in_ok-server.ensures.ok in
    let salt : IsBytes c.in-Some.server.salt.items = rw c.in-Some.is at c.in_ok-server.ensures.bytes in
    let is = server_first_is c.args.server_first.now (said c.in-Some.server.nonce.now c.in-Some.server.salt.items c.in-Some.server.rounds) (λ i. let f = c.type_inv.server_first i in omega arith) salt (sym read) in
    rw c.refused-then-not-continues.ensures ((c.in_ok-check_plain.ensures.ok, c.in_ok-check_plain-2.ensures.ok), (said c.in-Some.server.nonce.now c.in-Some.server.salt.items c.in-Some.server.rounds, is, not_then c.continues.result _ c.continues.ensures c.if-not-continues.true))

pub answer-requires-clause-server : goal.answer-requires-clause-server
answer-requires-clause-server c =
    let read : Some (said c.in-Some.server.nonce.now c.in-Some.server.salt.items c.in-Some.server.rounds) ≡ server_first_at c.args.server_first.now = rw c.in-Some.is at c.in_ok-server.ensures.ok in
    let salt : IsBytes c.in-Some.server.salt.items = rw c.in-Some.is at c.in_ok-server.ensures.bytes in
    let is = server_first_is c.args.server_first.now (said c.in-Some.server.nonce.now c.in-Some.server.salt.items c.in-Some.server.rounds) (λ i. let f = c.type_inv.server_first i in omega arith) salt (sym read) in
    printable_ascii c.in-Some.server.nonce.now is.printable

pub returns-clause-answer : goal.returns-clause-answer
returns-clause-answer c =
    let read : Some (said c.in-Some.server.nonce.now c.in-Some.server.salt.items c.in-Some.server.rounds) ≡ server_first_at c.args.server_first.now = rw c.in-Some.is at c.in_ok-server.ensures.ok in
    let salt : IsBytes c.in-Some.server.salt.items = rw c.in-Some.is at c.in_ok-server.ensures.bytes in
    let is = server_first_is c.args.server_first.now (said c.in-Some.server.nonce.now c.in-Some.server.salt.items c.in-Some.server.rounds) (λ i. let f = c.type_inv.server_first i in omega arith) salt (sym read) in
    if_ok c.answer.result
    (λ x h. record { user_plain = c.in_ok-check_plain.ensures.ok; password_plain = c.in_ok-check_plain-2.ensures.ok; server = said c.in-Some.server.nonce.now c.in-Some.server.salt.items c.in-Some.server.rounds; reads = is; continues = c.continues.ensures.0 c.if-not-continues.false; answers = h })
    c.answer.ensures.value
