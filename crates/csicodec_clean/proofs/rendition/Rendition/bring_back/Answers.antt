use Rattle.std.proofs.Common.{◌∙◌, ◌++◌, [], List, ℕ, Bool, sym, ap, append-nil}
use Rattle.std.specs.List.{concat}
use Rattle.csicodec_clean.specs.Styled.{Spelled, brought_back, is_open}
use Rattle.csicodec_clean.proofs.Rendered.{brought, brought_none, spelling}
use Rattle.csicodec_clean.proofs.rendition.Rendition.bring_back.Goals as goal

pub returns : goal.returns
returns c =
    let k = c.args.self.now in
    let v = c.self.inside in
    let w = c.self-2.inside in (
      _,
      c.in_ok-append_anew.ensures.text,
      λ r begins.
          let at = c.self.view_is ∙ begins in
          let (text, opens) =
          brought r k.styled c.deref.result.now c.deref-2.result.now (ap (λ (x : Spelled). x.styled) begins)
          (c.deref.ensures.value ∙ c.in_ok-append_to.ensures ∙ ap (λ (l : List ℕ). l ++ concat v.saved) c.new-saved.ensures.items ∙ ap (λ (x : Spelled). concat x.saved) at)
          (c.deref-2.ensures.value ∙ c.in_ok-append_to-2.ensures ∙ ap (λ (l : List ℕ). l ++ concat v.since) c.new-since.ensures.items ∙ ap (λ (x : Spelled). concat x.since) at) in (
            text,
            ap (λ (x : List (List ℕ)). spelling w.styled x w.saved) c.copy.ensures
                ∙ ap (λ (x : Spelled). spelling x.styled x.saved x.saved) (c.self-2.view_is ∙ c.in_ok-append_anew.ensures.now)
                ∙ ap (λ (b : Bool). spelling b k.saved k.saved) opens ∙ ap (λ (x : Spelled). spelling (is_open r.styled (brought_back r)) x.saved x.saved) begins,
          ),
    )

pub returns-then-is_same : goal.returns-then-is_same
returns-then-is_same c =
    let same = ap (λ (x : Spelled). x.saved) (sym c.self.view_is) ∙ c.is_same.ensures c.if-is_same.true ∙ ap (λ (x : Spelled). x.since) c.self.view_is in
    ([], sym (append-nil c.args.out.now.items), λ r begins. brought_none r c.args.self.now begins same)
