-- `slice` shows a run of the bytes that the owner lends: a walk of its MIR by hand. Assumes `Logic`.
use mathlib.Core.Path.{◌≡◌, refl, ap, ◌∙◌}
use Prim.Native.Nat.{ℕ, ◌+◌, ◌*◌, ◌≤◌, ◌^◌}
use native.Mathlib.Omega.{arith}
use mathlib.Core.List.{List, [], ◌∷◌}
use lib.ListN.{length, take, length-take, length-drop}
use lib.ListN.{drop as drop_l}
use base.Fraction.{full_share}
use mir.Syntax.{named, w64, ty_ptr}
use mir.Val.{Val}
use base.Logic.{never, id⊢}
use base.Fml.{ftrue, fat, flft}
use contract.Monad.{fact}
use contract.Running.{tables}
use types.Kit.{‵, raw, ◌⊛◌, at_ret, ◌$◌, ◌∵◌, !, qed, move, keep, drop, use1, split, join, rewrite, fsplit, fjoin, feq_i, suffices, frame, flt_l, flt_i, done}
use types.Part.{agg}
use types.Run.{of_opd, and_then, no_more, bin, first, blocks, exec, returns, enter}
use types.ByLocal.{alloc_all, pass_all, free_all, look_at, get, sets, sets_last, env, take_at, give_at}
use denote.Exit.{yes}
use denote.RattleType.{owns}
use denote.RawPtr.{Ptr, RawPtr, ptr_val, in_a_block, rawptr_vals, rawptr_Tells, rawptr_Lawful}
use denote.Ref.{ShrRef, shr_vals, shr_Tells, Bor}
use denote.Builtin.{u8, usize, RefOf}
use denote.Plain.{uint_vals, uint_Tells}
use denote.Signature.{plain}
use denote.Slice.{slice_val, elements_shared}
use denote.Opens.{hide, unhide}
use denote.Steps.{nothing, heard}
use denote.Triple.Walked.{says, Stays, stay_dropped, walk_of, ends_at, Goes-dropped}
use Rattle.std.proofs.raw_atomic.Walks.{proved}
use Rattle.std_alloc.proofs.VecSteps.Shapes.{after}
use Rattle.memory_block.specs.Ownership.{bytes_lent}
use Rattle.memory_block.proofs.Runs.{run_seen}
use Rattle.memory_block.specs.contracts.block.Bytes.{the_row as R}
use Rattle.memory_block.specs.contracts.block.Bytes.slice as f
use Rattle.memory_block.proofs.block.Bytes.slice.Statement.{statement}
use Rattle.memory_block.proofs.block.Bytes.slice.Code as code

abbrev stayed : Stays f.ended.signature.params f.ended.kept
stayed = (stay_dropped (RefOf (0 ∷ []) tt (plain (λ _. R)) (λ _. tt)) yes, (stay_dropped (plain (λ _. RawPtr)) yes, (stay_dropped (plain (λ _. usize)) yes, (stay_dropped (plain (λ _. usize)) yes, tt))))

pub slice_spec : {M : Type 1} → statement M
slice_spec 𝓤 𝓛 𝓜 𝓡 wired =
    let c = f.clauses 𝓛 𝓜.mem 𝓡.returns in let W = walk_of 𝓛 f.ended stayed c in let 𝓣 = tables 𝓤 𝓛.H 𝓜 𝓡 𝓡.env in
    proved 𝓛 f.ended stayed c 𝓜 𝓡
    (Goes-dropped 𝓛 1 (RefOf (0 ∷ []) tt (plain (λ _. R)) (λ _. tt)) yes (λ κs x w. refl), (Goes-dropped 𝓛 1 (plain (λ _. RawPtr)) yes (λ κs x w. refl), (Goes-dropped 𝓛 1 (plain (λ _. usize)) yes (λ κs x w. refl), (Goes-dropped 𝓛 1 (plain (λ _. usize)) yes (λ κs x w. refl), tt))))
    f.Key.name code.function (code.unfolded 𝓤 𝓛.H 𝓜 𝓡 wired)
    (λ κs. (shr_vals, (rawptr_vals, (uint_vals w64, (uint_vals w64, tt))))) (λ κs. (shr_Tells (named 0) κs.0 R, (rawptr_Tells, (uint_Tells w64, (uint_Tells w64, tt))))) (λ κs qs bounds a _ are.
    let κ = κs.0 in let d = a.0.now in let p = a.1.0 in let from = a.1.1.0 in let len = a.1.1.1.0 in let xs = d.items in
    let Asked : Type 0 = (p ≡ d.at) × (from + len ≤ length xs) in
    let vss : List Val × (List Val × (List Val × (List Val × Unit {0}))) = (shr_vals a.0, (rawptr_vals p, (uint_vals w64 from, (uint_vals w64 len, tt)))) in
    let y : W.Ghost = ((κs, qs, bounds, a, vss), tt) in
    qed 𝓛 (((‵ (flft κ qs.0) ⊛ ‵ ftrue) ⊛ ‵ (owns (ShrRef (named 0) κ R ∷ RawPtr ∷ usize ∷ usize ∷ []) a vss)) ∷ raw (fact 𝓤 Asked) ∷ []) ∵ move ! (1 ∷ []) $ heard ! Asked (λ asked.
    split ! $ split ! $ move ! (2 ∷ []) $ fsplit ! $ fsplit ! $ move ! (1 ∷ 3 ∷ []) $
    enter ! _ _ _ _ _ $ alloc_all ! (λ l. pass_all ! refl ((tt, tt), (((rawptr_Lawful 𝓛).typed p _ refl).0, ((tt, record { fits = are.1.1.0.1 }), ((tt, record { fits = are.1.1.1.0.1 }), tt)))) $
    unhide ! $ fsplit ! $ drop ! $ in_a_block ! d.at (λ r. bytes_lent r xs d.spare κ) (id⊢ 𝓤 (never 𝓤)) (λ b o e. fsplit ! $ flt_l ! (λ small.
    let ys = take len (drop_l from xs) in let long : len ≡ length ys = omega (arith, length-take len (drop_l from xs), length-drop from xs) in
    take_at ! 2 $ rewrite ! 0 (λ (r : Ptr). ‵ (fat full_share ty_ptr (l 2) 0 (ptr_val r))) (asked.0 ∙ e) refl $ give_at ! 2 $ first ! $ blocks ! $
    sets ! (bin ! (get ! refl) (get ! refl) tt) refl (tt, tt) $
    use1 𝓛 (‵ (elements_shared u8 ys b (from + o) κ)) (run_seen 𝓛 b κ o xs from len (omega arith)) $ hide ! $
    sets_last ! (agg ! (and_then ! (get ! refl) (and_then ! (get ! refl) (no_more !)))) refl (tt, (tt, (record { fits = are.1.1.1.0.1 }, tt))) $
    exec ! 𝓣.C 𝓣.Λ (env code.Mir.locals l) (after 1 (code.function).body) (at_ret _ (W.post y)) $ sets ! (of_opd ! (get ! refl)) refl (tt, (tt, (record { fits = are.1.1.1.0.1 }, tt))) $
    flt_i ! (length ys * 1) (2 ^ 63) (omega arith) $ flt_i ! (length ys) (2 ^ 64) (omega arith) $ fjoin ! $
    feq_i ! (List Val) (slice_val (b, from + o) len ∷ []) (slice_val (b, from + o) (length ys) ∷ []) (ap (λ k. slice_val (b, from + o) k ∷ []) long) $ fjoin ! $ fjoin ! $
    returns ! (look_at ! 0 refl) $ free_all ! refl $
    let s : Bor (List ℕ) = record { ref_ptr = (b, from + o); now = ys } in
    suffices ! _ (ends_at 𝓛 f.ended stayed c y (slice_val (b, from + o) len) s (tt, (tt, (tt, (tt, tt)))) (tt, (tt, (tt, (tt, tt))))) $ says ! refl $
    nothing ! $ move ! (2 ∷ 0 ∷ []) $ join ! $ frame ! $ keep ! (0 ∷ []) $ nothing ! $ nothing ! $ fjoin ! $ nothing ! $ fjoin ! $ nothing ! $ fjoin ! $ nothing ! $ fjoin ! $ done !)))))
