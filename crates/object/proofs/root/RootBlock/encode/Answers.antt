use Rattle.std.proofs.Common.{[], ◌∷◌, sym, ap, ◌∙◌, ap₂}
use Rattle.map.specs.Bytes.{le4, placed}
use Rattle.object.specs.Roots.{zeros, encoded_root}
use Rattle.object.specs.Words.{bytes_of}
use Rattle.object.proofs.root.RootBlock.encode.Goals as goal

pub returns-in-Live : goal.returns-in-Live
unfolding zeros
returns-in-Live c =
    let tagged = c.put_bytes.ensures ∙ ap (λ xs. placed 0 xs zeros) (c.to_le_bytes.ensures ∙ ap le4 c.tag.ensures) in
    let rooted = c.put_bytes-in-Live.ensures ∙ ap₂ (placed 4) (c.to_le_bytes-in-Live.ensures ∙ ap le4 c.root.ensures) tagged in
    let kinded = c.put_bytes-in-Live-2.ensures ∙ ap₂ (λ k block. placed 8 (k ∷ []) block) c.from.ensures rooted in
    c.put_words.ensures ∙ ap (placed 16 (bytes_of c.in-Live.root.blocks)) kinded ∙ ap encoded_root (sym c.in-Live.is)

pub returns-in_default : goal.returns-in_default
unfolding zeros
returns-in_default c = ap encoded_root (sym c.in_default.is)
