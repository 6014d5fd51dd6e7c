-- `slice_mut` lends a run of the bytes, and the owner follows it: a walk of its MIR by hand. Assumes `Logic`.
use mathlib.Core.Path.{◌≡◌, refl, sym, ◌∙◌}
use Prim.Native.Nat.{ℕ, ◌+◌, ◌*◌, ◌≤◌, ◌<◌, ◌^◌}
use native.Mathlib.Omega.{arith}
use mathlib.Core.List.{List, [], ◌∷◌, ◌++◌}
use lib.ListN.{length, take, length-take, length-drop, length-append}
use lib.ListN.{drop as drop_l}
use lib.Seq.{take_at as take_front}
use seplogic.Ra.Ura.{Ura}
use base.Fraction.{full_share}
use mir.Syntax.{named, w64, ty_ptr}
use mir.Val.{Val}
use base.Logic.{ent, sep, never, id⊢}
use base.Fml.{GName, Fml, ftrue, fsep, fat, flft, froom}
use types.Logic.{Logic, sem}
use types.SemTy.{cells}
use contract.Monad.{fact}
use contract.Running.{tables}
use types.Kit.{‵, raw, ◌⊛◌, some, later, await, pick, at_ret, ◌$◌, ◌∵◌, !, qed, move, keep, use1, use2, split, split3, join, rewrite, fsplit, fsplit3, fjoin, fjoin3, fpack, suffices, frame, group, flt_l, flt_i, done}
use types.Part.{agg}
use types.Run.{of_opd, and_then, no_more, bin, first, blocks, exec, returns, enter}
use types.ByLocal.{alloc_all, pass_all, free_all, look_at, get, sets, sets_last, env, take_at, give_at}
use denote.Array.{Array}
use denote.Exit.{yes, no}
use denote.Follow.{follows}
use denote.FollowSlice.{Elements, lends_Elements}
use denote.Index.{whole_in, whole_out}
use denote.Memory.{mem, cell_at, part_of}
use denote.RattleType.{owns}
use denote.RawPtr.{Ptr, RawPtr, block_ptr, ptr_val, in_a_block, rawptr_vals, rawptr_Tells, rawptr_Lawful}
use denote.RawPtr.Bytes.{bytes}
use denote.Ref.{MutBor, MutRef, mut_vals, mut_Tells}
use denote.Builtin.{u8, usize}
use denote.Plain.{uint_vals, uint_Tells}
use denote.Signature.{plain, mut_ref_to}
use denote.Slice.{MutSlice, slice_val}
use denote.Steps.{nothing, opens, heard}
use denote.Struct.Struct.{Struct}
use denote.Struct.Owning.{shape}
use denote.Triple.Walked.{says, Stays, stay_dropped, walk_of, ends_at, Goes-dropped, Goes-spent_ref}
use Rattle.std.specs.List.{refill}
use Rattle.std.proofs.raw_atomic.Walks.{proved}
use Rattle.std_alloc.proofs.VecSteps.Shapes.{after}
use Rattle.memory_block.specs.Lends.{with_items}
use Rattle.memory_block.specs.Splice.{spliced}
use Rattle.memory_block.specs.Ownership.{block_of, bytes_own}
use Rattle.memory_block.proofs.Runs.{Around, run_out, run_in}
use Rattle.memory_block.specs.contracts.block.Bytes.{the_row as R, the_type}
use Rattle.memory_block.specs.contracts.block.Bytes.slice_mut as f
use Rattle.memory_block.proofs.block.Bytes.slice_mut.Statement.{statement}
use Rattle.memory_block.proofs.block.Bytes.slice_mut.Code as code

abbrev stayed : Stays f.ended.signature.params f.ended.kept
stayed = (stay_dropped (mut_ref_to (0 ∷ []) tt (plain (λ _. R))) no, (stay_dropped (plain (λ _. RawPtr)) yes, (stay_dropped (plain (λ _. usize)) yes, (stay_dropped (plain (λ _. usize)) yes, tt))))

abbrev run_of : R.Denot → ℕ → ℕ → List ℕ
run_of d from len = take len (drop_l from d.items)

-- the owner once the run was written
abbrev written : R.Denot → ℕ → ℕ → List ℕ → R.Denot
written d from len ws = with_items d (spliced d.items from len (refill len (run_of d from len) ws))

module _ {M : Type 1} {𝓤 : Ura M} (𝓛 : Logic 𝓤) (d : R.Denot) (from len : ℕ) (us : List Val) (rb ro b o : ℕ) where
  -- all but the run
  abbrev Rest : Fml
  Rest = fsep (Around 𝓛 b o d.items from len) (fsep (froom (block_of d.spare) b (o + length d.items)) (fsep ((Struct (shape the_type)).own_val tt us) (cell_at full_share R.mir us rb ro)))

  back : d.at ≡ block_ptr b o → from + len ≤ length d.items → length d.items + d.spare < 2 ^ 63 → (ws : List ℕ) → length ws ≡ length (run_of d from len)
      → ent 𝓤 (sep 𝓤 (sem 𝓛 (cells (mem u8) ws b (from + o))) (sem 𝓛 Rest)) (sem 𝓛 ((mem R).own_at (written d from len ws) rb ro))
  unfolding part_of
  back e within small ws same =
      let old = run_of d from len in let rest = drop_l (from + len) d.items in
      let count : length ws ≡ len = omega (arith, length-take len (drop_l from d.items), length-drop from d.items) in
      let all : refill len old ws ≡ ws = take_front ws (drop_l (length ws) old) len count in
      let new = spliced d.items from len ws in
      let long : length new ≡ length d.items = omega (arith, length-append (take from d.items) (ws ++ rest), length-append ws rest, length-take from d.items, length-drop (from + len) d.items) in
      let way : o + length d.items ≡ o + length new = omega arith in let fits : length new + d.spare < 2 ^ 63 = omega arith in
      qed 𝓛 (‵ (cells (mem u8) ws b (from + o)) ∷ ‵ Rest ∷ []) ∵ use1 𝓛 (‵ (bytes full_share ws b (from + o))) (whole_out 𝓛 u8 ws b (from + o)) $ move ! (1 ∷ []) $ fsplit ! $ move ! (2 ∷ 0 ∷ []) $
      use2 𝓛 (‵ (bytes full_share new b o)) (run_in 𝓛 b o d.items from len within ws count) $ move ! (1 ∷ []) $ fsplit3 ! $
      rewrite ! 0 (λ (k : ℕ). ‵ (froom (block_of d.spare) b k)) way refl $ move ! (3 ∷ 0 ∷ []) $ fjoin ! $ flt_i ! (length new + d.spare) (2 ^ 63) fits $ fjoin ! $
      rewrite ! 0 (λ (l : List ℕ). ‵ (bytes_own (block_ptr b o) (spliced d.items from len l) d.spare)) (sym all) refl $
      rewrite ! 0 (λ (p : Ptr). ‵ (bytes_own p (written d from len ws).items d.spare)) (sym e) refl $ move ! (1 ∷ 0 ∷ []) $ fjoin ! $ move ! (1 ∷ 0 ∷ []) $ fjoin ! $
      fpack ! (List Val) (λ vs. fsep (cell_at full_share R.mir vs rb ro) (R.own_val (written d from len ws) vs)) us $ done !

pub slice_mut_spec : {M : Type 1} → statement M
slice_mut_spec 𝓤 𝓛 𝓜 𝓡 wired =
    let c = f.clauses 𝓛 𝓜.mem 𝓡.returns in let W = walk_of 𝓛 f.ended stayed c in let 𝓣 = tables 𝓤 𝓛.H 𝓜 𝓡 𝓡.env in
    proved 𝓛 f.ended stayed c 𝓜 𝓡
    (Goes-spent_ref 𝓛 1 (0 ∷ []) tt (plain (λ _. R)), (Goes-dropped 𝓛 1 (plain (λ _. RawPtr)) yes (λ κs x w. refl), (Goes-dropped 𝓛 1 (plain (λ _. usize)) yes (λ κs x w. refl), (Goes-dropped 𝓛 1 (plain (λ _. usize)) yes (λ κs x w. refl), tt))))
    f.Key.name code.function (code.unfolded 𝓤 𝓛.H 𝓜 𝓡 wired)
    (λ κs. (mut_vals, (rawptr_vals, (uint_vals w64, (uint_vals w64, tt))))) (λ κs. (mut_Tells (named 0) κs.0 R, (rawptr_Tells, (uint_Tells w64, (uint_Tells w64, tt))))) (λ κs qs bounds a _ are.
    let κ = κs.0 in let q = qs.0 in let rb = a.0.ref_ptr.0 in let ro = a.0.ref_ptr.1 in let γ = a.0.ghost_name in
    let d = a.0.now in let p = a.1.0 in let from = a.1.1.0 in let len = a.1.1.1.0 in let xs = d.items in
    let Asked : Type 0 = (p ≡ d.at) × (from + len ≤ length xs) in
    let vss : List Val × (List Val × (List Val × (List Val × Unit {0}))) = (mut_vals a.0, (rawptr_vals p, (uint_vals w64 from, (uint_vals w64 len, tt)))) in
    let y : W.Ghost = ((κs, qs, bounds, a, vss), tt) in
    qed 𝓛 (((‵ (flft κ q) ⊛ ‵ ftrue) ⊛ ‵ (owns (MutRef (named 0) κ R ∷ RawPtr ∷ usize ∷ usize ∷ []) a vss)) ∷ raw (fact 𝓤 Asked) ∷ []) ∵ move ! (1 ∷ []) $ heard ! Asked (λ asked.
    split ! $ split ! $ move ! (2 ∷ []) $ fsplit ! $ fsplit3 ! $ move ! (1 ∷ 2 ∷ 4 ∷ []) $
    enter ! _ _ _ _ _ $ alloc_all ! (λ l. pass_all ! refl ((tt, tt), (((rawptr_Lawful 𝓛).typed p _ refl).0, ((tt, record { fits = are.1.1.0.1 }), ((tt, record { fits = are.1.1.1.0.1 }), tt)))) $
    opens ! tt R {h = d} rb ro (λ us. move ! (1 ∷ []) $ fsplit ! $ move ! (1 ∷ []) $ in_a_block ! d.at (λ r. bytes_own r xs d.spare) (id⊢ 𝓤 (never 𝓤)) (λ b o e. fsplit ! $ flt_l ! (λ small. fsplit ! $
    let ys = run_of d from len in let at = from + o in let long : length ys ≡ len = omega (arith, length-take len (drop_l from xs), length-drop from xs) in
    let roomy : length ys < 2 ^ 64 = omega arith in let fitting : length ys * 1 < 2 ^ 63 = omega arith in
    let code_of = R.coded.code d in let new = written d from len in let rest = Rest 𝓛 d from len us rb ro b o in let way = back 𝓛 d from len us rb ro b o e asked.1 small in
    take_at ! 2 $ rewrite ! 0 (λ (r : Ptr). ‵ (fat full_share ty_ptr (l 2) 0 (ptr_val r))) (asked.0 ∙ e) refl $ give_at ! 2 $ first ! $ blocks ! $
    sets ! (bin ! (get ! refl) (get ! refl) tt) refl (tt, tt) $
    use1 𝓛 (‵ (bytes full_share ys b at) ⊛ ‵ (Around 𝓛 b o xs from len)) (run_out 𝓛 b o xs from len asked.1) $ split ! $ use1 𝓛 (‵ (cells (mem u8) ys b at)) (whole_in 𝓛 u8 ys b at) $
    sets_last ! (agg ! (and_then ! (get ! refl) (and_then ! (get ! refl) (no_more !)))) refl (tt, (tt, (record { fits = are.1.1.1.0.1 }, tt))) $
    exec ! 𝓣.C 𝓣.Λ (env code.Mir.locals l) (after 1 (code.function).body) (at_ret _ (W.post y)) $ sets ! (of_opd ! (get ! refl)) refl (tt, (tt, (record { fits = are.1.1.1.0.1 }, tt))) $
    -- [the run; the bytes round it; the room; the fields; their cell; the open borrow in three]
    move ! (2 ∷ 3 ∷ 4 ∷ []) $ fjoin3 ! $ move ! (2 ∷ 0 ∷ []) $ fjoin ! $ move ! (2 ∷ 3 ∷ 4 ∷ 1 ∷ 0 ∷ []) $ group ! 5 $
    use1 𝓛 (later (some (λ (δ : GName). raw (Elements 𝓛 R u8 new (named 0) κ q rb ro b at γ ys (roomy, fitting) (sem 𝓛 rest) way δ))))
    (lends_Elements 𝓛 R u8 new (named 0) κ q rb ro b at γ ys (roomy, fitting) (sem 𝓛 rest) way code_of code_of) $ await ! tt $ pick ! (λ δ.
    let s : MutBor (List ℕ) = record { ref_ptr = (b, at); ghost_name = δ; now = ys } in
    returns ! (look_at ! 0 refl) $ free_all ! refl $ keep ! (0 ∷ []) $
    use1 𝓛 (‵ ((MutSlice (named 0) κ u8).own_val s (slice_val (b, at) (length ys) ∷ [])) ⊛ ‵ (flft κ q) ⊛ ‵ (follows R (Array u8 0) γ δ new)) (id⊢ 𝓤 _) $
    split3 ! $ rewrite ! 0 (λ (k : ℕ). ‵ ((MutSlice (named 0) κ u8).own_val s (slice_val (b, at) k ∷ []))) long refl $
    suffices ! _ (ends_at 𝓛 f.ended stayed c y (slice_val (b, at) len) s (tt, (tt, (tt, (tt, tt)))) (tt, (tt, (tt, (tt, tt))))) $
    nothing ! $ nothing ! $ fjoin ! $ nothing ! $ fjoin ! $ nothing ! $ fjoin ! $ nothing ! $ fjoin ! $ join ! $ nothing ! $ move ! (2 ∷ 0 ∷ []) $ join ! $ join ! $ frame ! $ says ! refl $ done !)))))))
