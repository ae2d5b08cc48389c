-- The shape that a buffer is for stays when its symbols change.
use Rattle.std.proofs.Common.{◌∙◌, sym, subst}
use Rattle.array.specs.declared.shape.Shape.{Shape}
use Rattle.blocks.specs.declared.build.BlockBuffer.{BlockBuffer}
use Rattle.blocks.specs.Buffers.{IsSameBuffer}

-- what holds of the new shape holds of the old one
pub same_shape : (P : Shape → Type 0) (a b : BlockBuffer) → IsSameBuffer a b → P b.shape → P a.shape
same_shape P a b s p = subst P s.1 p

pub same_join : (a b c : BlockBuffer) → IsSameBuffer a b → IsSameBuffer b c → IsSameBuffer a c
same_join a b c s t = (t.0 ∙ s.0, t.1 ∙ s.1)

-- what holds of the old shape holds of the new one
pub new_shape : (P : Shape → Type 0) (a b : BlockBuffer) → IsSameBuffer a b → P a.shape → P b.shape
new_shape P a b s p = subst P (sym s.1) p
