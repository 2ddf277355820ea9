use Rattle.std.proofs.Common.{◌≡◌, ◌∙◌}
use Rattle.pg_auth.specs.Nonce.{nonce_of}
use Rattle.pg_conn.proofs.dialling.dial_and_establish.Goals as goal

pub returns-in-Ok-establish-clause-ok : goal.returns-in-Ok-establish-clause-ok
returns-in-Ok-establish-clause-ok g c =
    let k = c.in-Ok.ensures.ok in
    let drawn : c.as_bytes.result.now ≡ nonce_of k.0 = c.as_bytes.ensures.value ∙ c.as_str.ensures.value ∙ k.4 in
    (record { link = c.in-Ok.dialled.0; words = k.0; many = k.1; handed = k.2; uncalled = k.3; begins = rw drawn at c.in-Ok-establish.ensures.ok; capacity = c.in-Ok-establish.ensures.capacity }, c.in-Ok-establish.ensures.ok.1.2.3)
