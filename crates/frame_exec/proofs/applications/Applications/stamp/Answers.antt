use Rattle.std.proofs.Common.{◌≡◌, ℕ, ◌+◌, List, [], ◌++◌, length, length-append, refl, sym, ◌∙◌, ap, subst, append-nil}
use Rattle.std.specs.List.{flat_map}
use Rattle.bus_pipes.specs.declared.names.Out.{Out}
use Rattle.packet_log.specs.Sent.{makes}
use Rattle.packet_log.specs.Standing.{Stands as LogStands}
use Rattle.frame_wires.proofs.Offers.{six_as_long}
use Rattle.frame_wires.proofs.Stamping.{sent_none, sent_then, made_two}
use Rattle.frame_exec.proofs.applications.Applications.stamp.Goals as goal

-- two lists, one behind the other, that are each as long as another
as_long : (told stamped given sent : List Out) → length stamped ≡ length told → length sent ≡ length given → length (stamped ++ sent) ≡ length (told ++ given)
as_long told stamped given sent one two = length-append stamped sent ∙ ap (λ (n : ℕ). n + length sent) one ∙ ap (λ (n : ℕ). length told + n) two ∙ sym (length-append told given)

pub returns-clause-stamped : goal.returns-clause-stamped
returns-clause-stamped c =
    let old = c.args.self.now in
    let told = old.activations.items in
    let hs = old.hs.out.items in
    let cs = old.cs.out.items in
    let sc = old.sc.out.items in
    let mm = old.mm.out.items in
    let md = old.md.out.items in
    let lc = old.lc.slot.out.items in
    record {
      apps = record { hs = refl; cs = refl; sc = refl; mm = refl; md = refl; lc = refl };
      sent = λ made stands.
          let first = c.stamp.ensures.stands made stands in
          let one = c.stamp-2.ensures.stands _ first in
          let two = c.stamp-3.ensures.stands _ one in
          let three = c.stamp-4.ensures.stands _ two in
          let four = c.stamp-5.ensures.stands _ three in
          let five = c.stamp-6.ensures.stands _ four in
          let before = made ++ flat_map makes told in
          sent_then made told _ (hs ++ (cs ++ (sc ++ (mm ++ (md ++ (lc ++ [])))))) _ (c.stamp.ensures.sent made stands)
          (sent_then before hs _ (cs ++ (sc ++ (mm ++ (md ++ (lc ++ []))))) _ (c.stamp-2.ensures.sent _ first)
          (sent_then (before ++ flat_map makes hs) cs _ (sc ++ (mm ++ (md ++ (lc ++ [])))) _ (c.stamp-3.ensures.sent _ one)
          (sent_then ((before ++ flat_map makes hs) ++ flat_map makes cs) sc _ (mm ++ (md ++ (lc ++ []))) _ (c.stamp-4.ensures.sent _ two)
          (sent_then (((before ++ flat_map makes hs) ++ flat_map makes cs) ++ flat_map makes sc) mm _ (md ++ (lc ++ [])) _ (c.stamp-5.ensures.sent _ three)
          (sent_then ((((before ++ flat_map makes hs) ++ flat_map makes cs) ++ flat_map makes sc) ++ flat_map makes mm) md _ (lc ++ []) _ (c.stamp-6.ensures.sent _ four)
          (sent_then (((((before ++ flat_map makes hs) ++ flat_map makes cs) ++ flat_map makes sc) ++ flat_map makes mm) ++ flat_map makes md) lc _ [] [] (c.stamp-7.ensures.sent _ five) (sym (sent_none _))))))));
      made = λ made stands.
          let first = c.stamp.ensures.stands made stands in
          let one = c.stamp-2.ensures.stands _ first in
          let two = c.stamp-3.ensures.stands _ one in
          let three = c.stamp-4.ensures.stands _ two in
          let four = c.stamp-5.ensures.stands _ three in
          let five = c.stamp-6.ensures.stands _ four in
          let six = c.stamp-7.ensures.stands _ five in
          let before = made ++ flat_map makes told in
          made_two made told (hs ++ (cs ++ (sc ++ (mm ++ (md ++ (lc ++ [])))))) _
          (made_two before hs (cs ++ (sc ++ (mm ++ (md ++ (lc ++ []))))) _
          (made_two (before ++ flat_map makes hs) cs (sc ++ (mm ++ (md ++ (lc ++ [])))) _
          (made_two ((before ++ flat_map makes hs) ++ flat_map makes cs) sc (mm ++ (md ++ (lc ++ []))) _
          (made_two (((before ++ flat_map makes hs) ++ flat_map makes cs) ++ flat_map makes sc) mm (md ++ (lc ++ [])) _
          (made_two ((((before ++ flat_map makes hs) ++ flat_map makes cs) ++ flat_map makes sc) ++ flat_map makes mm) md (lc ++ []) _
          (made_two (((((before ++ flat_map makes hs) ++ flat_map makes cs) ++ flat_map makes sc) ++ flat_map makes mm) ++ flat_map makes md) lc [] _ (subst (λ (packets : List (List ℕ)). LogStands packets c.stamp-7.new.self.log) (sym (append-nil _)) six)))))));
      few = as_long told _ (hs ++ (cs ++ (sc ++ (mm ++ (md ++ (lc ++ [])))))) _ c.stamp.ensures.few
          (six_as_long hs cs sc mm md lc _ _ _ _ _ _ c.stamp-2.ensures.few c.stamp-3.ensures.few c.stamp-4.ensures.few c.stamp-5.ensures.few c.stamp-6.ensures.few c.stamp-7.ensures.few);
      pipes = c.stamp-7.ensures.pipes ∙ c.stamp-6.ensures.pipes ∙ c.stamp-5.ensures.pipes ∙ c.stamp-4.ensures.pipes ∙ c.stamp-3.ensures.pipes ∙ c.stamp-2.ensures.pipes ∙ c.stamp.ensures.pipes;
      drops = c.stamp-7.ensures.drops ∙ c.stamp-6.ensures.drops ∙ c.stamp-5.ensures.drops ∙ c.stamp-4.ensures.drops ∙ c.stamp-3.ensures.drops ∙ c.stamp-2.ensures.drops ∙ c.stamp.ensures.drops;
    }
