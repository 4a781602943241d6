use Rattle.std.proofs.Common.{refl}
use Rattle.image_cursor.proofs.CursorLaws.{finds_members, reads_images, skips_images}
use Rattle.image_cursor.proofs.cursor.Cursor.new.Goals as goal

pub returns : goal.returns
returns c = record { bytes = refl; at = refl; reads = reads_images; skips = skips_images; finds = finds_members }
