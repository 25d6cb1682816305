use Rattle.image_codec.proofs.Rules.{fails_geometry, fails_length, fails_magic, fails_version, keeps}
use Rattle.image_codec.proofs.image.check_header.Goals as goal

pub returns-then-not-is_image_length : goal.returns-then-not-is_image_length
returns-then-not-is_image_length c = fails_length c.args.bytes.now c.is_image_length.result c.is_image_length.ensures.1 c.if-not-is_image_length.true

pub returns-then-read_u64-ne-IMAGE_MAGIC : goal.returns-then-read_u64-ne-IMAGE_MAGIC
returns-then-read_u64-ne-IMAGE_MAGIC c = fails_magic c.args.bytes.now c.read_u64.result (c.is_image_length.ensures.0 c.if-not-is_image_length.false) c.read_u64.ensures c.if-read_u64-ne-IMAGE_MAGIC.true

pub returns-then-read_u64-ne-IMAGE_VERSION : goal.returns-then-read_u64-ne-IMAGE_VERSION
returns-then-read_u64-ne-IMAGE_VERSION c =
    fails_version c.args.bytes.now c.read_u64.result c.read_u64-2.result (c.is_image_length.ensures.0 c.if-not-is_image_length.false) c.read_u64.ensures c.if-read_u64-ne-IMAGE_MAGIC.false c.read_u64-2.ensures c.if-read_u64-ne-IMAGE_VERSION.true

pub returns-then-not-has_geometry : goal.returns-then-not-has_geometry
returns-then-not-has_geometry c =
    fails_geometry c.args.bytes.now c.read_u64.result c.read_u64-2.result c.read_u64-frames.result c.read_u64-scratch.result c.has_geometry.result (c.is_image_length.ensures.0 c.if-not-is_image_length.false) c.read_u64.ensures c.if-read_u64-ne-IMAGE_MAGIC.false c.read_u64-2.ensures
    c.if-read_u64-ne-IMAGE_VERSION.false c.read_u64-frames.ensures c.read_u64-scratch.ensures c.has_geometry.ensures.1 c.if-not-has_geometry.true

pub returns : goal.returns
returns c =
    keeps c.args.bytes.now _ _ _ _ (c.is_image_length.ensures.0 c.if-not-is_image_length.false) c.read_u64.ensures c.if-read_u64-ne-IMAGE_MAGIC.false c.read_u64-2.ensures
    c.if-read_u64-ne-IMAGE_VERSION.false c.read_u64-frames.ensures c.read_u64-scratch.ensures (c.has_geometry.ensures.0 c.if-not-has_geometry.false)
