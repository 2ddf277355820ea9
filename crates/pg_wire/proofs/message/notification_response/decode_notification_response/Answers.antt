use Rattle.std.proofs.Common.{sym, refl, arith}
use Rattle.pg_wire.proofs.ReaderLaws.{are_bytes}
use Rattle.pg_wire.proofs.MessageLaws.{told_says, told_none}
use Rattle.pg_wire.proofs.message.notification_response.decode_notification_response.Goals as goal

pub returns-in_ok-from_str-in-Some-2 : goal.returns-in_ok-from_str-in-Some-2
returns-in_ok-from_str-in-Some-2 c = rw (c.in_ok-from_str-in-Some.ensures, c.in_ok-from_str-in-Some-2.ensures) (told_says c.args.body.now c.in-Some.process_id c.in-Some.channel.now c.in-Some.payload.now (are_bytes c.args.body.now (λ i. omega (arith, c.type_inv.body i))) (sym c.in-Some.ensures))

pub returns-in-None : goal.returns-in-None
returns-in-None c = rw c.malformed.ensures (refl, told_none c.args.body.now (sym c.in-None.ensures))
