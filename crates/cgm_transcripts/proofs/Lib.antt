mod ContentLines
mod EachItem
mod Following
