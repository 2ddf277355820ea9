use Rattle.pg_rule.proofs.OrderLaws.{new_orderly, depth_orderly, draw_orderly, touch_orderly, hold_orderly, put_orderly, forget_orderly, clear_orderly, drawn_newest, server_had, closes_asked}
use Rattle.pg_rule.proofs.laws.a_session_stays_orderly.Goals as goal

pub returns-clause-new : goal.returns-clause-new
returns-clause-new c = new_orderly

pub returns-clause-depth : goal.returns-clause-depth
returns-clause-depth c = depth_orderly

pub returns-clause-draw : goal.returns-clause-draw
returns-clause-draw c = draw_orderly

pub returns-clause-touch : goal.returns-clause-touch
returns-clause-touch c = touch_orderly

pub returns-clause-hold : goal.returns-clause-hold
returns-clause-hold c = hold_orderly

pub returns-clause-put : goal.returns-clause-put
returns-clause-put c = put_orderly

pub returns-clause-forget : goal.returns-clause-forget
returns-clause-forget c = forget_orderly

pub returns-clause-clear : goal.returns-clause-clear
returns-clause-clear c = clear_orderly

pub returns-clause-drawn_is_newest : goal.returns-clause-drawn_is_newest
returns-clause-drawn_is_newest c = drawn_newest

pub returns-clause-server : goal.returns-clause-server
returns-clause-server c = server_had

pub returns-clause-closes : goal.returns-clause-closes
returns-clause-closes c = closes_asked
