-- What the walks of the functions under an allocator share. Assumes `Logic`.
use mathlib.Core.Path.{◌≡◌, refl, subst}
use mathlib.Core.List.{List, [], ◌∷◌, ◌++◌}
use seplogic.Ra.Ura.{Ura}
use mir.Syntax.{Args, a_type, dcons, dnil}
use mir.Val.{Val, vstruct, vcons, vnil, of_list}
use base.Logic.{SProp, ent, sep, emp, via, fst∗, snd∗}
use contract.Monad.{fact, fact_use}
use types.Logic.{Logic, sem}
use types.Kit.{Item, Goal, Seq, ‵, ◌$◌, ◌∵◌, !, qed, move, drop, fsplit, fjoin, fpick, fpack, feq_i, feq_l, done}
use denote.Laws.{Is}
use denote.Param.{bounded, param}
use denote.RattleType.{RattleType, Valss}
use denote.Shadow.{makes_shadow}
use denote.Steps.{nothing, owned}
use denote.Struct.Declared as Declared
use denote.Struct.Owning.{shape}
use denote.Struct.Struct.{Struct, Struct-Makes, within}
use denote.Struct.Tuple.{Tuple, tuple_type}
use Rattle.core.proofs.alloc.Calls.{Al}
use Rattle.memory_block.specs.contracts.block.Bytes as B
use Rattle.memory_block.specs.contracts.block.Deed as D

-- the fields of the owner: none
abbrev pub Fields : RattleType
Fields = Struct (shape B.the_type)

-- the machine's values of the owner and of a deed: neither takes any bytes
abbrev pub empty_val : Val
empty_val = vstruct vnil

abbrev pub mark : Val
mark = vstruct (vcons (vstruct vnil) vnil)

module _ (Z : Al) where
  abbrev pub args : Args
  args = bounded (a_type ∷ []) (Z.row, tt) (dcons Z.d (dcons Z.drops dnil))

  abbrev pub P : RattleType
  P = param 0 Z.row

  abbrev pub Dd : RattleType
  Dd = D.the_row P Z.g

  abbrev pub Mark : RattleType
  Mark = Struct (shape (D.the_type P Z.g))

pub fields_made : {M : Type 1} {𝓤 : Ura M} (𝓛 : Logic 𝓤) → ent 𝓤 (emp 𝓤) (sem 𝓛 (Fields.own_val tt (empty_val ∷ [])))
fields_made 𝓛 = qed 𝓛 [] ∵ owned ! Fields (Is Fields) (Struct-Makes 𝓛 (shape B.the_type) tt) tt (empty_val ∷ []) (tt, (refl, tt)) $ done !

pub mark_made : (Z : Al) {M : Type 1} {𝓤 : Ura M} (𝓛 : Logic 𝓤) → ent 𝓤 (emp 𝓤) (sem 𝓛 ((Mark Z).own_val (tt, tt) (mark ∷ [])))
mark_made Z 𝓛 = makes_shadow 𝓛 ((Mark Z).own_val (tt, tt) (mark ∷ [])) (λ vss. (tt, ((λ uss. (tt, tt)), tt))) ((vstruct vnil ∷ [], tt), (refl, ((tt, (refl, tt)), tt)))

module _ {M : Type 1} {𝓤 : Ura M} {𝓛 : Logic 𝓤} {K : Type 0} {Γ : List (Item 𝓤)} {G : Goal 𝓤 𝓛.H} where
  pub fields_had : K → (vs : List Val) → (vs ≡ empty_val ∷ [] → Seq K 𝓛 Γ G) → Seq K 𝓛 (‵ (Fields.own_val tt vs) ∷ Γ) G
  fields_had t vs k = fpick t (λ vss. fsplit t $ feq_l t (λ ev. drop t $ k ev))

  pub mark_had : K → (Z : Al) (vs : List Val) → (vs ≡ mark ∷ [] → Seq K 𝓛 Γ G) → Seq K 𝓛 (‵ ((Mark Z).own_val (tt, tt) vs) ∷ Γ) G
  mark_had t Z vs k = fpick t (λ vss. fsplit t $ feq_l t (λ ev. fsplit t $ fpick t (λ uss. fsplit t $ feq_l t (λ e. drop t $ drop t $
      k (subst (λ (ws : List Val). vs ≡ vstruct (of_list (ws ++ [])) ∷ []) e ev)))))

abbrev pub three_val : Val → Val → Val → Val
three_val u v w = vstruct (vcons u (vcons v (vcons w vnil)))

pub three_of : {M : Type 1} {𝓤 : Ura M} (𝓛 : Logic 𝓤) (R S T : RattleType) (x : R.Denot) (y : S.Denot) (z : T.Denot) (u v w : Val)
    → ent 𝓤 (sep 𝓤 (sem 𝓛 (R.own_val x (u ∷ []))) (sep 𝓤 (sem 𝓛 (S.own_val y (v ∷ []))) (sem 𝓛 (T.own_val z (w ∷ []))))) (sem 𝓛 ((Tuple (R ∷ S ∷ T ∷ [])).own_val (x, y, z) (three_val u v w ∷ [])))
three_of 𝓛 R S T x y z u v w =
    qed 𝓛 (‵ (R.own_val x (u ∷ [])) ∷ ‵ (S.own_val y (v ∷ [])) ∷ ‵ (T.own_val z (w ∷ [])) ∷ []) ∵ nothing ! $ move ! (3 ∷ 0 ∷ []) $ fjoin ! $ move ! (2 ∷ 0 ∷ []) $ fjoin ! $ move ! (1 ∷ 0 ∷ []) $ fjoin ! $
    feq_i ! (List Val) (three_val u v w ∷ []) (three_val u v w ∷ []) refl $ fjoin ! $
    fpack ! (Valss (R ∷ S ∷ T ∷ [])) (within (Declared.shape (tuple_type (R ∷ S ∷ T ∷ []))) (x, (y, (z, tt))) (three_val u v w ∷ [])) (u ∷ [], (v ∷ [], (w ∷ [], tt))) $ done !

-- of a `requires` under one type parameter: that the lifetime is within its own, and the fact
pub needs_both : {M : Type 1} (𝓤 : Ura M) (φ ψ : Type 0) (Q : SProp 𝓤) {R : SProp 𝓤} → (φ → ψ → ent 𝓤 Q R) → ent 𝓤 (sep 𝓤 Q (sep 𝓤 (fact 𝓤 φ) (fact 𝓤 ψ))) R
needs_both 𝓤 φ ψ Q h =
    let both : SProp 𝓤 = sep 𝓤 (fact 𝓤 φ) (fact 𝓤 ψ) in
    fact_use 𝓤 φ (via 𝓤 both (snd∗ 𝓤 Q both) (fst∗ 𝓤 (fact 𝓤 φ) (fact 𝓤 ψ))) (λ x.
    fact_use 𝓤 ψ (via 𝓤 both (snd∗ 𝓤 Q both) (snd∗ 𝓤 (fact 𝓤 φ) (fact 𝓤 ψ))) (λ y. via 𝓤 Q (fst∗ 𝓤 Q both) (h x y)))
