use Rattle.csicodec_looks.proofs.{Common.[], Common.◌∷◌, Common.further, Texts.nine_on}
use Rattle.csicodec_looks.specs.Paint.{look_text}
use Rattle.csicodec_looks.proofs.paint.append_look.Goals as goal

pub returns : goal.returns
unfolding look_text
returns c = rw (
  c.in_ok-push.ensures.items,
  c.in_ok-append_given-9.ensures,
  c.is_colored-3.ensures,
  c.in_ok-append_given-8.ensures,
  c.is_colored-2.ensures,
  c.in_ok-append_given-7.ensures,
  c.in_ok-append_given-6.ensures,
  c.in_ok-append_given-5.ensures,
  c.in_ok-append_given-4.ensures,
  c.is_colored.ensures,
  c.in_ok-append_given-3.ensures,
  c.is_lined.ensures,
  c.in_ok-append_given-2.ensures,
  c.in_ok-append_given.ensures,
  c.is_set.ensures,
  c.in_ok-extend_from_slice.ensures.items,
) (nine_on further _ _ _ _ _ _ _ _ _ _ (27 ∷ 91 ∷ 48 ∷ []) (109 ∷ []))
