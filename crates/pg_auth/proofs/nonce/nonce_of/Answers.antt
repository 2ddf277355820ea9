use Rattle.pg_auth.proofs.NonceLemmas.{nonce_made, nonce_lawful}
use Rattle.pg_auth.proofs.nonce.nonce_of.Goals as goal

pub returns-clause-value : goal.returns-clause-value
returns-clause-value c = nonce_made c.args.words.now _ _ c.requires c.loop-word-test.false c.loop-word.invariant.so_far

pub returns-clause-lawful : goal.returns-clause-lawful
returns-clause-lawful c = nonce_lawful c.args.words.now _ c.requires (returns-clause-value c)
