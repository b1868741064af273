use Rattle.std.proofs.Common.{◌++◌, ◌∷◌, ◌∙◌, ap, drop, sym, take, take-append-drop}
use Rattle.csicodec_looks.proofs.{Common.prefix_len, Common.page_bytes, Common.stands, Marks.page_on, Marks.run_on, Fronts.front_in}
use Rattle.csicodec_looks.proofs.escaped.append_page.Goals as goal

pub loop-byte-init : goal.loop-byte-init
loop-byte-init c =
    let bytes = c.args.bytes.now in
    let len = prefix_len stands bytes in
    let front = take len bytes in
    let rest = drop len bytes in
    rw c.split_front.ensures.rest
    (run_on c.args.out.now.items c.extend_from_slice.new.self.items bytes front rest (front_in stands bytes) (sym (take-append-drop len bytes))
    (c.in_ok-extend_from_slice.ensures.items ∙ ap (λ t. c.args.out.now.items ++ t) c.split_front.ensures.front))

pub loop-byte-preserved : goal.loop-byte-preserved
loop-byte-preserved c =
    let l = c.loop-byte in
    let byte = c.in-Some.byte.now in
    let behind = c.in-Some.behind.now in
    let len = prefix_len stands behind in
    let front = take len behind in
    let others = drop len behind in
    let split = c.in-Some.ensures.cases.0 ∙ ap (λ t. byte ∷ t) (sym (take-append-drop len behind)) in
    rw c.in_ok-rest.ensures.rest
    (page_on (c.args.out.now.items ++ page_bytes c.args.bytes.now) l.out.items c.append_byte.new.out.items c.append_standing.new.out.items byte front others (front_in stands behind)
    (ap (λ t. l.out.items ++ page_bytes t) (sym split) ∙ l.invariant) c.in_ok-append_byte.ensures
    c.in_ok-rest.ensures.front)
