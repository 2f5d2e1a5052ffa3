-- What the code reads of nodes and images is what the definitions speak of.
use Rattle.std.proofs.Common.{◌≡◌, ℕ, ◌<◌, List, length, get_or, sym, ap, ◌∙◌, subst}
use Rattle.std.specs.Prelude.{slice_index_or}
use Rattle.std.proofs.lemmas.List.{get_or-map, get_or_default, length-map}
use Rattle.tn_net.specs.Trees.{LoadNode, node_at}
use Rattle.tn_net.specs.WholeTrees.{IsWholeTree}
use Rattle.tn_stream.specs.declared.images.Image.{Image}
use Rattle.tn_stream.specs.Images.{image_of, images_of}
use Rattle.tn_stream.specs.LoadBranches.{no_image, site_of}

-- a node that was read, by its view
pub node-read : (nodes : List LoadNode) (k : ℕ) {n m : LoadNode} → n ≡ m → m ≡ get_or nodes k m → k < length nodes → node_at nodes k ≡ n
node-read nodes k {n} {m} view is inside = get_or_default nodes k _ m inside ∙ (sym is ∙ sym view)

-- a tree that is whole for images is so for what contracts see of them
pub whole-images : (images : List Image) (nodes : List LoadNode) → IsWholeTree nodes (length images)
    → IsWholeTree nodes (length (images_of images))
whole-images images nodes whole = subst (IsWholeTree nodes) (sym (length-map images image_of)) whole

-- the image of a node that was read
pub image-read : (images : List Image) (nodes : List LoadNode) (k : ℕ) {n m : LoadNode} {i : Image} → IsWholeTree nodes (length images)
    → n ≡ m → m ≡ get_or nodes k m → k < length nodes → i ≡ get_or images n.processor i
    → (site_of (images_of images) (node_at nodes k)).image ≡ image_of i
image-read images nodes k {n} {m} {i} whole view is inside image =
    let node : node_at nodes k ≡ n = node-read nodes k view is inside in
    let below : n.processor < length images = subst (λ x. x.processor < length images) node (whole.placed k inside).processor in
    ap (λ x. slice_index_or (images_of images) x.processor no_image) node
    ∙ (get_or-map image_of images n.processor i no_image below ∙ ap image_of (sym image))

-- the processor of a node that was read
pub site-read : (images : List Image) (nodes : List LoadNode) (k : ℕ) {n m : LoadNode} {i : Image} → IsWholeTree nodes (length images)
    → n ≡ m → m ≡ get_or nodes k m → k < length nodes → i ≡ get_or images n.processor i
    → record { boot = n.boot_link; image = image_of i } ≡ site_of (images_of images) (node_at nodes k)
site-read images nodes k {n} {m} {i} whole view is inside image =
    let node : node_at nodes k ≡ n = node-read nodes k view is inside in
    sym (ap (λ b. record { boot = b; image = (site_of (images_of images) (node_at nodes k)).image }) (ap (λ x. x.boot_link) node)
    ∙ ap (λ im. record { boot = n.boot_link; image = im }) (image-read images nodes k whole view is inside image))
