mod KeyLaws
mod PlaceLaws
mod PageLaws
