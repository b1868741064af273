use Rattle.std.proofs.{Common.◌≡◌, Common.◌<◌, Common.length, Common.refl, Common.subst, Common.sym, Common.take, Common.arith, lemmas.List.Elements.All-get_or}
use Rattle.std.proofs.{lemmas.Option.slice_get_read}
use Rattle.csicodec_transform.specs.Known.{IsKnown}
use Rattle.csicodec_transform.proofs.memo.Memo.has.Goals as goal

pub returns : goal.returns
returns g c = λ yes.
    let slot = c.index-slot.result.now in
    let items = c.args.self.now.slots.items in
    let within : c.args.at < length items = omega (arith, c.if-at-len.false, c.len.ensures) in
    let known : IsKnown g.N.Note.notes slot = subst (IsKnown g.N.Note.notes) (sym c.index-slot.ensures) (All-get_or (IsKnown g.N.Note.notes) items c.args.at slot within c.requires) in
    let same : (0 < slot.len) × (take slot.len c.args.bytes.now ≡ take slot.len slot.bytes) = rw c.from.ensures at (c.is_front.ensures yes) in (
      slot,
      slice_get_read items (length items) c.args.at slot refl within c.index-slot.ensures,
      same.0,
      omega (arith, known.0, c.if-bytes-lt-WIDE.false),
      known.1,
      subst (λ l. g.N.Note.notes l (take slot.text_len slot.text)) (sym same.1) (known.2 same.0),
    )
