-- A participant lends itself: the `&mut` that is handed back follows itself.
use mathlib.Core.Path.{refl}
use Prim.Native.Nat.{ℕ}
use mathlib.Core.List.{[], ◌∷◌}
use seplogic.Ra.Ura.{Ura}
use mir.Syntax.{Args, Fn, Dict, named, a_type, dcons, dnil}
use mir.MapTy.{inst_fn}
use mir.Val.{Val, vptr}
use base.Logic.{SProp, ent}
use base.Fml.{Lft, GName, Share, ftrue, flft}
use prog.Memory.{Memory}
use prog.Routine.{Routine}
use prog.Wp.{Calls, Loops, WpFn, Tables}
use types.Logic.{Logic}
use contract.Lifetimes.{AllOutlive}
use contract.Monad.{Fun}
use contract.Running.{tables, tables_of}
use sound.WpLaws.{WpFn-mono}
use types.Kit.{‵, ◌⊛◌, raw, ◌$◌, ◌∵◌, !, qed, by, move, keep, join, fsplit, fjoin, use0, suffices, frame, done}
use types.Run.{stop, addr, returns, enter}
use types.ByLocal.{alloc_all, pass_all, free_all, look_at, through, sets}
use denote.Builtin.{RefMutOf}
use denote.Exit.{no}
use denote.Follow.{follows}
use denote.Param.{bounded, param}
use denote.RattleType.{RattleType, owns}
use denote.Ref.{MutBor, MutRef, mut_vals, mut_Tells}
use denote.Signature.{plain}
use denote.Steps.{nothing}
use denote.Triple.Clauses.{Clauses, Ended, closing}
use denote.Triple.Entry.{on_entry}
use denote.Triple.Spec.{Meets, triple_of}
use denote.Triple.Table.{entered}
use denote.Triple.Walked.{says, Stays, stay_dropped, walk_of, ends_at, walked, Goes-spent_ref, walk_Meets}
use borrow.Follows.Kept.{follows_itself}
use Rattle.std.specs.declared.sync.ledger.Ledger as ledgers
use Rattle.pg_pool.specs.declared.ledger.PoolLedger as pools
use Rattle.pg_pool.specs.contracts.seat.PoolSeat.{the_row}
use Rattle.pg_listening.specs.contracts.holders.PoolSeatSeatHolder.seat_mut as F
use Rattle.pg_listening.specs.contracts.holders.PoolSeatSeatHolder.seat_mut.Key.{name as #self}
use Rattle.pg_listening.proofs.holders.PoolSeatSeatHolder.seat_mut.Statement as stated
use Rattle.pg_listening.proofs.holders.PoolSeatSeatHolder.seat_mut.Code as code

module _ (X : RattleType) (p : pools.Ghosts X.Denot) (e : Dict) (g : ledgers.Ghosts X.Denot) (d : Dict) where
  abbrev args : Args
  args = bounded (a_type ∷ []) (X, tt) (dcons e (dcons d dnil))

  abbrev function : Fn
  function = inst_fn args code.function

  abbrev R : RattleType
  R = the_row (param 0 X) g

  abbrev ended : Ended
  ended = F.ended X p e g d

  abbrev stayed : Stays ended.signature.params ended.kept
  stayed = (stay_dropped (RefMutOf (0 ∷ []) tt (plain (λ _. R)) (λ _. tt)) no, tt)

  module _ {M : Type 1} {𝓤 : Ura M} (𝓛 : Logic 𝓤) (at_mem : Memory → SProp 𝓤) (run : Routine → Fun 𝓤) where
    open 𝓛 use {H}

    abbrev clauses : Clauses 𝓤 ended
    clauses = F.clauses X p e g d 𝓛 at_mem run

    module _ (C : Calls 𝓤 H) (Λ : Loops 𝓤 H) (κ κT : Lft) (q qT : Share) (bd : AllOutlive 2 ended.signature.outlives (κ, (κT, tt))) (b o : ℕ) (γ : GName) (x : R.Denot) where
      abbrev self : MutBor R.Denot
      self = record { ref_ptr = (b, o); ghost_name = γ; now = x }

      abbrev bound : (walk_of 𝓛 ended stayed clauses).Ghost
      bound = (((κ, (κT, tt)), (q, (qT, tt)), bd, (self, tt), (mut_vals self, tt)), tt)

      abbrev Post : Val → SProp 𝓤
      Post = (walk_of 𝓛 ended stayed clauses).post bound

      walk : ent 𝓤 (on_entry 𝓛 ended.signature (κ, (κT, tt)) (q, (qT, tt)) (self, tt) (mut_vals self, tt)) (WpFn 𝓤 H C Λ function (vptr b o ∷ []) Post)
      walk =
          qed 𝓛 ((‵ (flft κ q) ⊛ ‵ (flft κT qT) ⊛ ‵ ftrue) ∷ ‵ (owns (MutRef (named 0) κ R ∷ []) (self, tt) (mut_vals self, tt)) ∷ []) ∵ enter ! C Λ function (vptr b o ∷ []) _ $
          alloc_all ! (λ l. pass_all ! refl ((tt, tt), tt) $
          sets ! (addr ! (through ! refl (stop !))) refl (tt, tt) $
          returns ! (look_at ! 0 refl) $ free_all ! refl $ keep ! (1 ∷ 0 ∷ []) $ fsplit ! $ keep ! (0 ∷ 2 ∷ []) $
          use0 𝓛 (‵ (follows R R γ γ (λ w. w))) (follows_itself 𝓛 R γ) $
          suffices ! _ (ends_at 𝓛 ended stayed clauses bound (vptr b o) self (tt, tt) (tt, tt)) $
          move ! (1 ∷ 2 ∷ []) $ nothing ! $ nothing ! $ fjoin ! $ join ! $ move ! (1 ∷ []) $ join ! $ frame ! $ says ! refl $ done !)

    meets : (𝓣 : Tables 𝓤 H) → Meets 𝓛 ended.signature (WpFn 𝓤 H 𝓣.C 𝓣.Λ function) (closing 𝓛 ended clauses)
    meets 𝓣 =
        walk_Meets 𝓛 ended stayed (Goes-spent_ref 𝓛 2 (0 ∷ []) tt (plain (λ _. R)), tt) clauses (WpFn 𝓤 H 𝓣.C 𝓣.Λ function) (WpFn-mono 𝓤 H 𝓛.laws 𝓣 function)
        (walked 𝓛 ended stayed clauses (WpFn 𝓤 H 𝓣.C 𝓣.Λ function) (λ κs. (mut_vals, tt)) (λ κs. (mut_Tells (named 0) κs.0 R, tt))
        (λ κs qs bounds a i are.
        qed 𝓛 (raw (on_entry 𝓛 ended.signature κs qs a (mut_vals a.0, tt)) ∷ raw ((clauses κs a).requires i) ∷ []) ∵
        keep ! (0 ∷ []) $ by ! (walk 𝓣.C 𝓣.Λ κs.0 κs.1.0 qs.0 qs.1.0 bounds a.0.ref_ptr.0 a.0.ref_ptr.1 a.0.ghost_name a.0.now)))

pub seat_mut_spec : {M : Type 1} → stated.statement M
unfolding tables_of
seat_mut_spec 𝓤 𝓛 𝓜 𝓡 wired X L p e g d met_pool met_ledger =
    let 𝓣 : Tables 𝓤 𝓛.H = tables_of 𝓤 𝓛.H 𝓜 (tables 𝓤 𝓛.H 𝓜 𝓡 𝓡.env) in
    entered 𝓤 𝓛.H (triple_of 𝓛 (ended X p e g d).signature (F.spec X p e g d 𝓛 𝓜.mem 𝓡.returns)) 𝓣.C 𝓣.Λ (#self (args X p e g d)) (function X p e g d) (code.unfolded 𝓤 𝓛.H 𝓜 𝓡 wired (X, tt) e d)
    (meets X p e g d 𝓛 𝓜.mem 𝓡.returns 𝓣)
