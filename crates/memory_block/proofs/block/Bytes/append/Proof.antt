-- `append` writes the first place that holds nothing yet: a walk of its MIR by hand. Assumes `Logic`.
use mathlib.Core.Path.{◌≡◌, refl, sym, ◌∙◌}
use Prim.Native.Nat.{ℕ, suc, ◌+◌, ◌-◌, ◌<◌, ◌^◌}
use native.Mathlib.Omega.{arith}
use mathlib.Core.List.{List, [], ◌∷◌, ◌++◌}
use lib.ListN.{length, length-append}
use base.Fraction.{full_share}
use mir.Syntax.{named, w8, w64, ty_int, ty_ptr}
use mir.Val.{Val, vunit}
use base.Logic.{never, id⊢}
use base.Fml.{ftrue, fat, flft, froom}
use contract.Monad.{fact}
use contract.Running.{tables}
use types.Kit.{‵, raw, ◌⊛◌, at_ret, ◌$◌, ◌∵◌, !, qed, move, keep, use1, use2, split, join, rewrite, fsplit, fsplit3, fjoin, fjoin3, feq_i, suffices, frame, flt_l, flt_i, done}
use types.Run.{init, stop, unit_lit, of_opd, bin, assigns_last, first, blocks, exec, returns, enter}
use types.ByLocal.{alloc_all, pass_all, free_all, look_at, get, through, sets, env, take_at, give_at}
use denote.Exit.{yes}
use denote.RattleType.{owns}
use denote.Memory.{part_at}
use denote.RawPtr.{Ptr, RawPtr, ptr_val, in_a_block, rawptr_vals, rawptr_Tells, rawptr_Lawful}
use denote.RawPtr.Bytes.{bytes, bytes_glue}
use denote.Ref.{MutRef, mut_vals, mut_Tells}
use denote.Builtin.{u8, usize}
use denote.Plain.{uint_in, uint_vals, uint_Tells}
use denote.Signature.{plain}
use denote.Steps.{nothing, opens, closes, heard}
use denote.Triple.Walked.{says, Stays, stay_dropped, stay_ref, walk_of, ends_at, Goes-dropped, Goes-ref}
use Rattle.std.proofs.raw_atomic.Walks.{proved}
use Rattle.std_alloc.proofs.VecSteps.Shapes.{after}
use Rattle.memory_block.specs.Ownership.{block_of, bytes_own}
use Rattle.memory_block.specs.contracts.block.Bytes.{the_row as R}
use Rattle.memory_block.specs.contracts.block.Bytes.append as f
use Rattle.memory_block.proofs.block.Bytes.append.Statement.{statement}
use Rattle.memory_block.proofs.block.Bytes.append.Code as code

abbrev stayed : Stays f.ended.signature.params f.ended.kept
stayed = (stay_ref (0 ∷ []) tt (plain (λ _. R)), (stay_dropped (plain (λ _. RawPtr)) yes, (stay_dropped (plain (λ _. usize)) yes, (stay_dropped (plain (λ _. u8)) yes, tt))))

pub append_spec : {M : Type 1} → statement M
append_spec 𝓤 𝓛 𝓜 𝓡 wired =
    let c = f.clauses 𝓛 𝓜.mem 𝓡.returns in let W = walk_of 𝓛 f.ended stayed c in let 𝓣 = tables 𝓤 𝓛.H 𝓜 𝓡 𝓡.env in
    proved 𝓛 f.ended stayed c 𝓜 𝓡
    (Goes-ref 𝓛 1 0 tt (plain (λ _. R)), (Goes-dropped 𝓛 1 (plain (λ _. RawPtr)) yes (λ κs x w. refl), (Goes-dropped 𝓛 1 (plain (λ _. usize)) yes (λ κs x w. refl), (Goes-dropped 𝓛 1 (plain (λ _. u8)) yes (λ κs x w. refl), tt))))
    f.Key.name code.function (code.unfolded 𝓤 𝓛.H 𝓜 𝓡 wired)
    (λ κs. (mut_vals, (rawptr_vals, (uint_vals w64, (uint_vals w8, tt))))) (λ κs. (mut_Tells (named 0) κs.0 R, (rawptr_Tells, (uint_Tells w64, (uint_Tells w8, tt))))) (λ κs qs bounds a _ are.
    let rb = a.0.ref_ptr.0 in let ro = a.0.ref_ptr.1 in let d = a.0.now in let p = a.1.0 in let len = a.1.1.0 in let byte = a.1.1.1.0 in
    let xs = d.items in let n = d.spare - 1 in
    let Asked : Type 0 = (p ≡ d.at) × (len ≡ length xs) × (0 < d.spare) in
    let vss : List Val × (List Val × (List Val × (List Val × Unit {0}))) = (mut_vals a.0, (rawptr_vals p, (uint_vals w64 len, (uint_vals w8 byte, tt)))) in
    let y : W.Ghost = ((κs, qs, bounds, a, vss), tt) in
    qed 𝓛 (((‵ (flft κs.0 qs.0) ⊛ ‵ ftrue) ⊛ ‵ (owns (MutRef (named 0) κs.0 R ∷ RawPtr ∷ usize ∷ u8 ∷ []) a vss)) ∷ raw (fact 𝓤 Asked) ∷ []) ∵ move ! (1 ∷ []) $ heard ! Asked (λ asked.
    split ! $ split ! $ move ! (2 ∷ []) $ fsplit ! $ fsplit3 ! $ move ! (1 ∷ 2 ∷ 4 ∷ []) $
    enter ! _ _ _ _ _ $ alloc_all ! (λ l. pass_all ! refl ((tt, tt), (((rawptr_Lawful 𝓛).typed p _ refl).0, ((tt, record { fits = are.1.1.0.1 }), ((tt, record { fits = are.1.1.1.0.1 }), tt)))) $
    opens ! tt R {h = d} rb ro (λ us. move ! (1 ∷ []) $ fsplit ! $ move ! (1 ∷ []) $ in_a_block ! d.at (λ r. bytes_own r xs d.spare) (id⊢ 𝓤 (never 𝓤)) (λ b o e. fsplit ! $ flt_l ! (λ small. fsplit ! $
    let place : o + length xs ≡ len + o = omega arith in let more : d.spare ≡ suc n = omega arith in
    let behind : len + o + 1 ≡ o + length (xs ++ byte ∷ []) = omega (arith, length-append xs (byte ∷ [])) in
    let fits : length (xs ++ byte ∷ []) + n < 2 ^ 63 = omega (arith, length-append xs (byte ∷ [])) in
    let new : R.Denot = record { at = d.at; items = xs ++ byte ∷ []; spare = n } in
    take_at ! 2 $ rewrite ! 0 (λ (r : Ptr). ‵ (fat full_share ty_ptr (l 2) 0 (ptr_val r))) (asked.0 ∙ e) refl $ give_at ! 2 $ first ! $ blocks ! $
    sets ! (bin ! (get ! refl) (get ! refl) tt) refl (tt, tt) $ move ! (1 ∷ []) $
    rewrite ! 0 (λ (k : ℕ). ‵ (froom (block_of k) b (o + length xs))) more refl $ rewrite ! 0 (λ (k : ℕ). ‵ (froom (block_of (suc n)) b k)) place refl $
    use1 𝓛 (‵ (froom (ty_int w8) b (len + o)) ⊛ ‵ (froom (block_of n) b (len + o + 1))) (𝓛.laws.room_uncons (ty_int w8) n b (len + o)) $ split ! $
    -- [room for one byte; the room behind it; the bytes; the fields; their cell; the open borrow in three]
    assigns_last ! (of_opd ! (get ! refl)) (through ! refl (stop !)) (init ! 0 refl (tt, record { fits = are.1.1.1.0.1 })) $
    exec ! 𝓣.C 𝓣.Λ (env code.Mir.locals l) (after 1 (code.function).body) (at_ret _ (W.post y)) $ sets ! (of_opd ! (unit_lit !)) refl (tt, tt) $
    use1 𝓛 (‵ (part_at u8 full_share byte b (len + o))) (uint_in 𝓛 full_share w8 byte b (len + o)) $ nothing ! $ move ! (1 ∷ 0 ∷ []) $ fjoin ! $
    rewrite ! 0 (λ (k : ℕ). ‵ (bytes full_share (byte ∷ []) b k)) (sym place) refl $ move ! (2 ∷ 0 ∷ []) $
    use2 𝓛 (‵ (bytes full_share (xs ++ byte ∷ []) b o)) (bytes_glue 𝓛 full_share xs (byte ∷ []) b o) $ move ! (1 ∷ []) $
    rewrite ! 0 (λ (k : ℕ). ‵ (froom (block_of n) b k)) behind refl $ move ! (1 ∷ 0 ∷ []) $ fjoin ! $ flt_i ! (length (xs ++ byte ∷ []) + n) (2 ^ 63) fits $ fjoin ! $
    rewrite ! 0 (λ (r : Ptr). ‵ (bytes_own r (xs ++ byte ∷ []) n)) (sym e) refl $ move ! (1 ∷ 0 ∷ []) $ fjoin ! $ move ! (1 ∷ 0 ∷ []) $ closes ! tt R new us rb ro $
    returns ! (look_at ! 0 refl) $ free_all ! refl $
    suffices ! _ (ends_at 𝓛 f.ended stayed c y vunit tt (new, (tt, (tt, (tt, tt)))) (tt, (tt, (tt, (tt, tt))))) $ says ! (refl, refl, omega arith) $
    move ! (3 ∷ []) $ fjoin3 ! $ nothing ! $ move ! (2 ∷ 0 ∷ []) $ join ! $ frame ! $ feq_i ! (List Val) (vunit ∷ []) _ refl $
    nothing ! $ nothing ! $ fjoin ! $ nothing ! $ fjoin ! $ nothing ! $ fjoin ! $ keep ! (2 ∷ 0 ∷ 1 ∷ []) $ fjoin ! $ done !))))))
