-- What is left of a migration that is given up.
use Rattle.std.proofs.Common.{◌≡◌, ap, ◌∙◌, Bool, true, false, Some, None}
use Rattle.std.specs.Prelude.{is_some}
use Rattle.pg_conn.specs.Connections.{ConnOf}
use Rattle.pg_migrating.specs.Asking.{Question, left_of, no_question}

module _ {C A : Type 0} (conn : C → ConnOf A) (with_conn : C → ConnOf A → C) where
  -- of a holder that changed in its connection alone
  pub left_behind : ((x : C) (v w : ConnOf A) → with_conn (with_conn x v) w ≡ with_conn x w) → (c d result : C) (is_open : Bool) (question : Question) → d ≡ with_conn c (conn d) → question ≡ None → result ≡ with_conn d (left_of is_open question (conn d)) → result ≡ with_conn c (left_of is_open no_question (conn d))
  left_behind again c d result is_open question e n r = (rw n at r) ∙ ap (λ x. with_conn x (left_of is_open no_question (conn d))) e ∙ again c (conn d) (left_of is_open no_question (conn d))

  -- of one whose call was never polled
  pub left_alone : ((x : C) → with_conn x (conn x) ≡ x) → (c d result : C) (is_open : Bool) (question : Question) → d ≡ c → is_open ≡ false → is_some question ≡ true → result ≡ with_conn d (left_of is_open question (conn d)) → result ≡ c
  left_alone same c d result is_open None e o i r = absurd cc
  left_alone same c d result is_open (Some asked) e o i r = (rw (o, e) at r) ∙ same c
