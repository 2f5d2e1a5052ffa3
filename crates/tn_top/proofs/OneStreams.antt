-- The stream of a tree of one node is that of one processor.
use Rattle.std.proofs.Common.{◌≡◌, ◌∙◌, ℕ, List, [], ◌∷◌, ap, ap₂}
use Rattle.tn_net.specs.Trees.{LoadNode}
use Rattle.tn_stream.specs.declared.images.Image.{Image}
use Rattle.tn_stream.specs.Images.{image_of, images_of}
use Rattle.tn_stream.specs.LoadBranches.{whole_branch}
use Rattle.tn_stream.specs.Streams.{stream}
use Rattle.tn_stream.proofs.SingleTrees.{single_node, single-branch}
use Rattle.tn_top.specs.OneProcessor.{code_image, boot_stream}

pub boot-is : (link : ℕ) (code : List ℕ) (images : List Image) (image : Image) (nodes : List LoadNode) → images ≡ image ∷ []
    → image_of image ≡ code_image code → nodes ≡ single_node link ∷ []
    → stream (whole_branch (images_of images) nodes) ≡ boot_stream link code
unfolding boot_stream
boot-is link code images image nodes one is alone =
    ap₂ (λ is ns. stream (whole_branch is ns)) (ap images_of one ∙ ap (λ i. i ∷ []) is) alone
    ∙ ap stream (single-branch link (code_image code))
